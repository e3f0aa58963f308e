-- By cases: a test holds or fails; a number is one that a rule names, or the tests for those all fail. With a case's fact put in, a test on
-- states or events computes.
use Rattle.std.proofs.Common.{◌≡◌, ℕ, Bool, true, false, eqb, refl, eqb-true}

pub at_test : {P : Type 0} (t : Bool) → (t ≡ true → P) → (t ≡ false → P) → P
at_test true holds fails = holds refl
at_test false holds fails = fails refl

module _ {P : Type 0} (n : ℕ) where
  pub at_number : (j : ℕ) → (n ≡ j → P) → (eqb n j ≡ false → P) → P
  at_number j is-j is-other = at_test (eqb n j) (λ e. is-j (eqb-true n j e)) is-other

  pub at_either : (j k : ℕ) → (n ≡ j → P) → (n ≡ k → P) → (eqb n j ≡ false → eqb n k ≡ false → P) → P
  at_either j k is-j is-k is-other = at_number j is-j (λ not-j. at_number k is-k (is-other not-j))
