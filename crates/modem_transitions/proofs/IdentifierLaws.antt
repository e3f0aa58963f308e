-- What the rule for the next Identifier says: never 0, one more below 255, 1 after it.
use Rattle.std.proofs.Common.{◌≡◌, ℕ, ◌+◌, ◌<◌, Bool, true, false, cond, eqb, refl, ap, ◌∙◌, mod-eq_of_lt, arith, ne_eqb}
use borrow.Author.Tests.{eqb-false}
use Rattle.modem_transitions.specs.Identifier.{wrapped, next_identifier_of}

-- An Identifier that is not 0
abbrev pub Solicited : ℕ → Type 0
Solicited identifier = identifier ≡ 0 → ⊥

pub next_solicited : (counter : ℕ) → Solicited (next_identifier_of counter)
next_solicited counter = go (eqb (wrapped counter) 0) refl
  where
    go : (b : Bool) → eqb (wrapped counter) 0 ≡ b → Solicited (cond b 1 (wrapped counter))
    go true e z = omega (arith, z)
    go false e z = eqb-false (wrapped counter) 0 e z

-- as long as the octet does not wrap
pub next_below : (counter : ℕ) → counter < 255 → next_identifier_of counter ≡ counter + 1
next_below counter h =
    let same : wrapped counter ≡ counter + 1 = mod-eq_of_lt (omega arith) in
    ap (λ (n : ℕ). cond (eqb n 0) 1 n) same ∙ rw (ne_eqb (counter + 1) 0 (λ e. omega (arith, e)))

pub next_255 : next_identifier_of 255 ≡ 1
next_255 = refl
