-- That the SAIDs of up to four descriptors are different, tested pair by pair.
use Prim.Native.Nat.{ℕ, zero, suc}
use mathlib.Core.Path.{◌≡◌, refl, sym, ap, ◌∙◌}
use mathlib.Core.List.{List, [], ◌∷◌}
use lib.ListN.{length, get_or, take}
use Rattle.questions.specs.Apart.{pairs_apart}
use Rattle.questions.proofs.ListLaws.{of_four}
use Rattle.message_rules.specs.Messages.{different}
use Rattle.message_rules.proofs.ApartLaws.{pairs_different}
use Rattle.message_rules.specs.declared.fields.Descriptor.{Descriptor}
use Rattle.message_rules.specs.Limits.{saids_of}
use Rattle.message_rules.specs.Fields.{no_descriptor_of}

abbrev said_at : List Descriptor → ℕ → ℕ
said_at ds i = (get_or ds i no_descriptor_of).said

saids_take : (n : ℕ) (ds : List Descriptor) → saids_of (take n ds) ≡ take n (saids_of ds)
unfolding saids_of
saids_take zero ds = refl
saids_take (suc n) [] = refl
saids_take (suc n) (d ∷ ds) = ap (λ (l : List ℕ). d.said ∷ l) (saids_take n ds)

pub differ_pairs : (n : ℕ) (ds : List Descriptor) → length ds ≡ 4
    → pairs_apart n (said_at ds 0) (said_at ds 1) (said_at ds 2) (said_at ds 3) ≡ different (saids_of (take n ds))
unfolding saids_of
differ_pairs n =
    of_four (λ (l : List Descriptor). pairs_apart n (said_at l 0) (said_at l 1) (said_at l 2) (said_at l 3) ≡ different (saids_of (take n l)))
    (λ a b c d. pairs_different n a.said b.said c.said d.said ∙ ap different (sym (saids_take n (a ∷ b ∷ c ∷ d ∷ []))))
