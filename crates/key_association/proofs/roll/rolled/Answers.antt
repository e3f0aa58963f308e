-- `key_association::roll::rolled` meets its contract.
use Rattle.key_association.specs.Roll.{rolled_of}
use Prim.Native.Nat.{◌+◌, ◌*◌}
use mathlib.Core.Path.{◌≡◌, refl}
use Rattle.key_traffic.specs.Numbers.{after_of}
use Rattle.key_traffic.specs.Suites.{width_of}
use Rattle.key_association.specs.Mint.{mint_of}
use borrow.Author.Tests.{lt-ltb, le-ltb}
use Rattle.key_association.proofs.roll.rolled.Goals as goal

pub returns-then-t-a : goal.returns-then-t-a
unfolding rolled_of
returns-then-t-a c = simp (lt-ltb _ _ c.if-t-a.true)

pub returns-then-t-a-2 : goal.returns-then-t-a-2
unfolding rolled_of
returns-then-t-a-2 c = simp (
  le-ltb _ _ c.if-t-a.false,
  lt-ltb _ _ c.if-t-a-2.true,
  c.mint-next.ensures,
  c.tek_after.ensures,
  c.width-w.ensures.0,
)
    refl

pub returns : goal.returns
unfolding rolled_of
returns c = let x = c.args in
    let first : c.mint-first.result ≡ mint_of x.m.now x.at (width_of x.a.suite) (after_of x.a.newer.number 1) (x.t + x.half) =
    rw (c.mint-first.ensures, c.tek_after-2.ensures, c.width-w.ensures.0) refl in
    let second : c.mint-second.result ≡ mint_of x.m.now (x.at + 32) (width_of x.a.suite) (after_of x.a.newer.number 2) (x.t + 2 * x.half) =
    rw (c.mint-second.ensures, c.tek_after-3.ensures, c.width-w.ensures.0) refl in
    simp (
      le-ltb _ _ c.if-t-a.false,
      le-ltb _ _ c.if-t-a-2.false,
      first,
      second,
    )
    refl
