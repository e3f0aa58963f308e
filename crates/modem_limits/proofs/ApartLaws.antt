-- That the SAIDs of the slots in use are different, tested pair by pair.
use Prim.Native.Nat.{ℕ, zero, suc}
use mathlib.Core.Path.{◌≡◌, refl, sym, ap, ◌∙◌}
use mathlib.Core.List.{List, [], ◌∷◌}
use lib.ListN.{length, get_or, take}
use Rattle.questions.specs.Apart.{pairs_apart}
use Rattle.questions.proofs.ListLaws.{of_four}
use Rattle.message_rules.specs.Messages.{different}
use Rattle.message_rules.proofs.ApartLaws.{pairs_different}
use Rattle.modem_tek.specs.declared.tek.Tek.{Tek}
use Rattle.modem_steps.specs.State.{past_tek}
use Rattle.modem_limits.specs.Limits.{saids_of_teks}

abbrev said_at : List Tek → ℕ → ℕ
said_at ts i = (get_or ts i past_tek).said

saids_take : (n : ℕ) (ts : List Tek) → saids_of_teks (take n ts) ≡ take n (saids_of_teks ts)
unfolding saids_of_teks
saids_take zero ts = refl
saids_take (suc n) [] = refl
saids_take (suc n) (t ∷ ts) = ap (λ (l : List ℕ). t.said ∷ l) (saids_take n ts)

pub differ_pairs : (n : ℕ) (ts : List Tek) → length ts ≡ 4
    → pairs_apart n (said_at ts 0) (said_at ts 1) (said_at ts 2) (said_at ts 3) ≡ different (saids_of_teks (take n ts))
unfolding saids_of_teks
differ_pairs n =
    of_four (λ (l : List Tek). pairs_apart n (said_at l 0) (said_at l 1) (said_at l 2) (said_at l 3) ≡ different (saids_of_teks (take n l)))
    (λ a b c d. pairs_different n a.said b.said c.said d.said ∙ ap different (sym (saids_take n (a ∷ b ∷ c ∷ d ∷ []))))
