-- `exported::refused` meets its contract: each test decides the contract's.
use Rattle.cipher_cbc.specs.Calls.{refusal_of}
use borrow.Author.Tests.{eq-eqb, ne_eqb, lt-ltb, le-ltb}
use Rattle.cipher_cbc.proofs.exported.refused.Goals as goal

pub returns-then-key-ne-BLOCK_OCTETS : goal.returns-then-key-ne-BLOCK_OCTETS
unfolding refusal_of
returns-then-key-ne-BLOCK_OCTETS c = simp (ne_eqb _ _ c.if-key-ne-BLOCK_OCTETS.true)

pub returns-then-vector-ne-BLOCK_OCTETS : goal.returns-then-vector-ne-BLOCK_OCTETS
unfolding refusal_of
returns-then-vector-ne-BLOCK_OCTETS c = simp (eq-eqb _ _ c.if-key-ne-BLOCK_OCTETS.false, ne_eqb _ _ c.if-vector-ne-BLOCK_OCTETS.true)

pub returns-then-out-frame : goal.returns-then-out-frame
unfolding refusal_of
returns-then-out-frame c = simp (eq-eqb _ _ c.if-key-ne-BLOCK_OCTETS.false, eq-eqb _ _ c.if-vector-ne-BLOCK_OCTETS.false, lt-ltb _ _ c.if-out-frame.true)

pub returns-then-frame-lt-CLEAR_OCTETS : goal.returns-then-frame-lt-CLEAR_OCTETS
unfolding refusal_of
returns-then-frame-lt-CLEAR_OCTETS c = simp (eq-eqb _ _ c.if-key-ne-BLOCK_OCTETS.false, eq-eqb _ _ c.if-vector-ne-BLOCK_OCTETS.false, le-ltb _ _ c.if-out-frame.false, lt-ltb _ _ c.if-frame-lt-CLEAR_OCTETS.true)

pub returns-else-frame-lt-CLEAR_OCTETS : goal.returns-else-frame-lt-CLEAR_OCTETS
unfolding refusal_of
returns-else-frame-lt-CLEAR_OCTETS c = simp (eq-eqb _ _ c.if-key-ne-BLOCK_OCTETS.false, eq-eqb _ _ c.if-vector-ne-BLOCK_OCTETS.false, le-ltb _ _ c.if-out-frame.false, le-ltb _ _ c.if-frame-lt-CLEAR_OCTETS.false)
