-- Writing an answer: the writer takes what can be written, and nothing is written where there is no answer.
use mathlib.Core.Path.{◌≡◌, refl, ◌∙◌, ap}
use mathlib.Core.Bool.{true, false}
use mathlib.Core.List.{List}
use Prim.Native.Nat.{ℕ}
use lib.Dec.{eqb}
use lib.ListN.{length}
use Rattle.key_traffic.specs.Octets.{overlay}
use Rattle.message_rules.specs.declared.fields.Fields.{Fields}
use Rattle.message_digest.specs.Digest.{signed_of}
use Rattle.message_digest.specs.Written.{written_of, write_of}
use Rattle.message_digest.proofs.CallLaws.{call_done}
use Rattle.headend_steps.specs.Receive.{answer_octets, Writable}

module _ (f : Fields) (auth write lent : List ℕ) where
  abbrev Written : ℕ → List ℕ → Type 0
  Written n after = (n ≡ length (answer_octets f auth write)) × (after ≡ overlay lent (answer_octets f auth write))

  pub none_put : eqb f.code 0 ≡ true → Written 0 lent
  unfolding answer_octets
  none_put none = rw none (refl, refl)

  module _ (w : Writable f auth write (length lent)) (some : eqb f.code 0 ≡ false) where
    taken : written_of f auth write (length lent) ≡ signed_of f auth write
    taken = (call_done f auth write (length lent) (w.fields some) w.auth-key w.message_key (w.short some)).1

    message_is : signed_of f auth write ≡ answer_octets f auth write
    unfolding answer_octets
    message_is = rw some

    pub answer_put : (n : ℕ) (after : List ℕ) → n ≡ (write_of f auth write (length lent)).count → after ≡ overlay lent (written_of f auth write (length lent)) → Written n after
    unfolding write_of
    answer_put n after e ea =
        let same = taken ∙ message_is in
        (e ∙ ap length same, ea ∙ ap (overlay lent) same)
