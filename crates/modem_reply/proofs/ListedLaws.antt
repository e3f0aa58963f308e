-- Which SAIDs a Reply lists: what `any` finds among its descriptors.
use mathlib.Core.Path.{◌≡◌, refl}
use mathlib.Core.Bool.{Bool, true, false, ◌&&◌, ◌||◌}
use mathlib.Core.List.{List, [], ◌∷◌}
use Prim.Native.Nat.{ℕ, zero, suc}
use native.Mathlib.Omega.{arith}
use lib.Dec.{ltb, eqb}
use lib.ListN.{length, take, get_or}
use Rattle.message_rules.specs.Fields.{no_descriptor_of}
use borrow.Author.Tests.{lt-ltb}
use Rattle.std.specs.List.{list_any}
use Rattle.message_rules.specs.declared.fields.Descriptor.{Descriptor}
use Rattle.message_rules.specs.declared.fields.Fields.{Fields}
use Rattle.modem_reply.specs.Listed.{lists}

-- one of four
one_of : (p q r s : Bool) → (p || (q || (r || (s || false)))) ≡ (p || q || r || s)
one_of true q r s = refl
one_of false true r s = refl
one_of false false true s = refl
one_of false false false true = refl
one_of false false false false = refl

take_none : (k : ℕ) → take {A = Descriptor} k [] ≡ []
take_none zero = refl
take_none (suc k) = refl

module _ (said suite : ℕ) where
  abbrev pub is_of : Descriptor → Bool
  is_of d = eqb d.said said && eqb d.suite suite

  abbrev at : ℕ → ℕ → Descriptor → Bool
  at n i d = ltb i n && eqb d.said said && eqb d.suite suite

  among : (a b d e : Descriptor) (n : ℕ) → list_any is_of (take n (a ∷ b ∷ d ∷ e ∷ [])) ≡ (at n 0 a || at n 1 b || at n 2 d || at n 3 e)
  among a b d e zero = refl
  among a b d e (suc zero) = one_of (is_of a) false false false
  among a b d e (suc (suc zero)) = one_of (is_of a) (is_of b) false false
  among a b d e (suc (suc (suc zero))) = one_of (is_of a) (is_of b) (is_of d) false
  among a b d e (suc (suc (suc (suc k)))) =
      simp (take_none k, lt-ltb 0 (suc (suc (suc (suc k)))) (omega arith), lt-ltb 1 (suc (suc (suc (suc k)))) (omega arith), lt-ltb 2 (suc (suc (suc (suc k)))) (omega arith), lt-ltb 3 (suc (suc (suc (suc k)))) (omega arith))
      (one_of (is_of a) (is_of b) (is_of d) (is_of e))

  -- `xs` are the Reply's descriptors
  in_list : (xs : List Descriptor) (n : ℕ) → length xs ≡ 4
      → list_any is_of (take n xs)
      ≡ (at n 0 (get_or xs 0 no_descriptor_of) || at n 1 (get_or xs 1 no_descriptor_of) || at n 2 (get_or xs 2 no_descriptor_of) || at n 3 (get_or xs 3 no_descriptor_of))
  in_list (a ∷ b ∷ d ∷ e ∷ []) n long = among a b d e n
  in_list [] n long = absurd (omega (arith, long))
  in_list (a ∷ []) n long = absurd (omega (arith, long))
  in_list (a ∷ b ∷ []) n long = absurd (omega (arith, long))
  in_list (a ∷ b ∷ d ∷ []) n long = absurd (omega (arith, long))
  in_list (a ∷ b ∷ d ∷ e ∷ g ∷ xs) n long = absurd (omega (arith, long))

  pub listed : (f : Fields) → length f.descriptors ≡ 4 → list_any is_of (take f.count f.descriptors) ≡ lists f said suite
  unfolding lists
  listed f long = in_list f.descriptors f.count long
