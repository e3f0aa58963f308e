-- Only listings and the clock make a key, and what they make is what the minting rule gives (document 01, "Traffic keys at the
-- head-end": "No other call mints a TEK").
use mathlib.Core.Path.{◌≡◌, refl, sym, ◌∙◌, ap, subst}
use mathlib.Core.List.{List, [], ◌∷◌, ◌++◌, map, map-append}
use Prim.Native.Nat.{ℕ, zero, suc, ◌+◌, ◌*◌}
use native.Mathlib.Omega.{arith}
use lib.ListN.{length, take, drop, length-append, length-map, take-append-drop}
use lib.Seq.{length-take-le, take_at}
use Rattle.questions.specs.Answer.{Answer, Done}
use Rattle.questions.specs.declared.settings.Settings.{Settings}
use Rattle.questions.specs.Refusal.{answer_number_of}
use Rattle.questions.specs.Settings.{half_of}
use Rattle.key_association.specs.declared.listing.Listing.{Listing}
use Rattle.key_association.specs.declared.record.Assoc.{Assoc}
use Rattle.key_association.specs.Listing.{fresh_of as freshRecord}
use Rattle.key_association.specs.Made.{Generations, SaidSuite, listed_generations, all_listed_generations, all_generations_to, all_generations_after, record_of}
use Rattle.key_association.proofs.RollLaws.{fresh_line}
use Rattle.key_records.specs.Records.{listed_records, stored_at, rolled_to}
use Rattle.key_records.proofs.RecordsLaws.{roll_lines}
use Rattle.headend_state.specs.declared.state.HeadEnd.{HeadEnd}
use Rattle.headend_state.specs.State.{fresh_of}
use Rattle.headend_limits.specs.Search.{half_in_of}
use Rattle.headend_calls.specs.Calls.{records_for, list_of, list_records_of, clock_of, clock_records_of, receive_of}
use Rattle.headend_calls.specs.Minting.{pair_at, pairs_to, named_pairs, accepted_list, accepted_clock}
use Rattle.headend_calls.proofs.CallsLaws.{list_met, clock_met}
use Rattle.headend_calls.proofs.StateLaws.{SameBase, list_state, clock_state, receive_base}

-- ---- the records of a listing's first n places are those of the lines that the rule mints
pairs_length : (l : Listing) (n : ℕ) → length (pairs_to l n) ≡ n
pairs_length l zero = refl
pairs_length l (suc n) =
    let e = length-append (pairs_to l n) (pair_at l n ∷ []) in
    let ih = pairs_length l n in
    omega arith

module _ (half t : ℕ) (m : List ℕ) where
  lines_snoc : (at : ℕ) (ss : List SaidSuite) (s : SaidSuite)
      → all_listed_generations half t m at (ss ++ (s ∷ [])) ≡ all_listed_generations half t m at ss ++ (listed_generations half t m (at + length ss * 64) s ∷ [])
  lines_snoc at [] s =
      let e : at ≡ at + 0 * 64 = omega arith in
      ap (λ (k : ℕ). listed_generations half t m k s ∷ []) e
  lines_snoc at (x ∷ ss) s =
      let e : (at + 64) + length ss * 64 ≡ at + suc (length ss) * 64 = omega arith in
      ap (λ (ls : List Generations). listed_generations half t m at x ∷ ls)
      (lines_snoc (at + 64) ss s ∙ ap (λ (k : ℕ). all_listed_generations half t m (at + 64) ss ++ (listed_generations half t m k s ∷ [])) e)

  lines_length : (at : ℕ) (ss : List SaidSuite) → length (all_listed_generations half t m at ss) ≡ length ss
  lines_length at [] = refl
  lines_length at (s ∷ ss) = ap suc (lines_length (at + 64) ss)

  pub listed_lines : (l : Listing) (n : ℕ) → listed_records half t m l n ≡ map record_of (all_listed_generations half t m 0 (pairs_to l n))
  unfolding listed_records
  listed_lines l zero = refl
  listed_lines l (suc n) =
      let ls = all_listed_generations half t m 0 (pairs_to l n) in
      let here = pair_at l n in
      let place : n * 64 ≡ 0 + length (pairs_to l n) * 64 = omega (arith, pairs_length l n) in
      let made : freshRecord half t m (n * 64) here.said here.suite ≡ record_of (listed_generations half t m (0 + length (pairs_to l n) * 64) here)
      = ap (λ (k : ℕ). freshRecord half t m k here.said here.suite) place ∙ fresh_line half t m (0 + length (pairs_to l n) * 64) here in
      ap (λ (xs : List Assoc). xs ++ (freshRecord half t m (n * 64) here.said here.suite ∷ [])) (listed_lines l n)
      ∙ ap (λ (x : Assoc). map record_of ls ++ (x ∷ [])) made
      ∙ sym (map-append record_of ls (listed_generations half t m (0 + length (pairs_to l n) * 64) here ∷ []))
      ∙ ap (map record_of) (sym (lines_snoc 0 (pairs_to l n) here))

  lines_to_length : (at : ℕ) (ls : List Generations) → length (all_generations_to half t m at ls) ≡ length ls
  lines_to_length at [] = refl
  lines_to_length at (l ∷ ls) = ap suc (lines_to_length (at + 64) ls)

-- ---- the records after an accepted call
module _ (h : HeadEnd) (xs : List Assoc) (address allowed : ℕ) (l : Listing) (m : List ℕ) where
  pub list_mints : (list_of h xs address allowed l m).answer ≡ Done
      → list_records_of h xs address allowed l m
      ≡ take h.used xs ++ map record_of (all_listed_generations (half_in_of h) h.clock m 0 (named_pairs l)) ++ drop (h.used + l.count) xs
  list_mints e =
      ap (λ (a : Answer). records_for a (stored_at h.used (half_in_of h) h.clock m l l.count xs) xs) e
      ∙ ap (λ (ys : List Assoc). take h.used xs ++ ys ++ drop (h.used + l.count) xs) (listed_lines (half_in_of h) h.clock m l l.count)

module _ (h : HeadEnd) (xs : List Assoc) (t : ℕ) (m : List ℕ) where
  pub clock_mints : (clock_of h xs t m).answer ≡ Done → (ls : List Generations) → take h.used xs ≡ map record_of ls
      → clock_records_of h xs t m ≡ map record_of (all_generations_to (half_in_of h) t m 0 ls) ++ drop h.used xs
  clock_mints e ls shown =
      let q = clock_met h xs t m (ap answer_number_of e) in
      let many : length ls ≡ h.used = sym (length-map ls record_of) ∙ ap length (sym shown) ∙ length-take-le h.used xs q.lent in
      let whole : xs ≡ map record_of ls ++ drop h.used xs = sym (take-append-drop h.used xs) ∙ ap (λ (ys : List Assoc). ys ++ drop h.used xs) shown in
      ap (λ (a : Answer). records_for a (rolled_to (half_in_of h) t m 0 h.used xs) xs) e
      ∙ ap (rolled_to (half_in_of h) t m 0 h.used) whole
      ∙ ap (λ (n : ℕ). rolled_to (half_in_of h) t m 0 n (map record_of ls ++ drop h.used xs)) (sym many)
      ∙ roll_lines (half_in_of h) t m 0 ls (drop h.used xs)

-- ---- the lines that the records show: those in use are the last two keys made of each SAID, where H is `half`
pub record Shows (half : ℕ) (h : HeadEnd) (xs : List Assoc) (ls : List Generations) : Type 0 where
  pub half_is : half_in_of h ≡ half
  pub shown : take h.used xs ≡ map record_of ls
  pub as_many : length ls ≡ h.used

-- a head-end with the same settings and as many records in use shows the same
module _ {half : ℕ} {h : HeadEnd} {xs : List Assoc} {ls : List Generations} where
  pub shows_same : (g : HeadEnd) → SameBase h g → Shows half h xs ls → Shows half g xs ls
  shows_same g b w =
      record {
        half_is = ap (λ (z : Settings). half_of z.tek) b.settings ∙ w.half_is;
        shown = ap (λ (n : ℕ). take n xs) b.used ∙ w.shown;
        as_many = w.as_many ∙ sym b.used;
      }

  -- no message changes what is shown
  pub receive_shows : (address : ℕ) (read write s auth : List ℕ) (lent : ℕ)
      → Shows half h xs ls → Shows half (receive_of h xs address read write s auth lent).state xs ls
  receive_shows address read write s auth lent w =
      shows_same (receive_of h xs address read write s auth lent).state (receive_base h xs address read write s auth lent) w

  module _ (address allowed : ℕ) (l : Listing) (m : List ℕ) (w : Shows half h xs ls) where
    -- an accepted listing adds the lines that the rule mints
    pub list_shows : (list_of h xs address allowed l m).answer ≡ Done
        → Shows half (list_of h xs address allowed l m).state (list_records_of h xs address allowed l m) (all_generations_after half ls (accepted_list h l m))
    list_shows e =
        let q = list_met h xs address allowed l m (ap answer_number_of e) in
        let new = all_listed_generations half h.clock m 0 (named_pairs l) in
        let n = h.used + l.count in
        let many : length (ls ++ new) ≡ n
        = length-append ls new ∙ ap (λ (k : ℕ). k + length new) w.as_many
        ∙ ap (λ (k : ℕ). h.used + k) (lines_length half h.clock m 0 (named_pairs l) ∙ pairs_length l l.count) in
        let front : take h.used xs ++ map record_of (all_listed_generations (half_in_of h) h.clock m 0 (named_pairs l)) ≡ map record_of (ls ++ new)
        = ap (λ (ys : List Assoc). ys ++ map record_of (all_listed_generations (half_in_of h) h.clock m 0 (named_pairs l))) w.shown
        ∙ ap (λ (k : ℕ). map record_of ls ++ map record_of (all_listed_generations k h.clock m 0 (named_pairs l))) w.half_is
        ∙ sym (map-append record_of ls new) in
        let after : list_records_of h xs address allowed l m ≡ map record_of (ls ++ new) ++ drop n xs
        = list_mints h xs address allowed l m e ∙ ap (λ (ys : List Assoc). ys ++ drop n xs) front in
        let wide : length (map record_of (ls ++ new)) ≡ n = length-map (ls ++ new) record_of ∙ many in
        subst (λ (g : HeadEnd). Shows half g (list_records_of h xs address allowed l m) (ls ++ new)) (sym (list_state h xs address allowed l m e))
        (record {
          half_is = w.half_is;
          shown = ap (take n) after ∙ take_at (map record_of (ls ++ new)) (drop n xs) n wide;
          as_many = many;
        })

  module _ (t : ℕ) (m : List ℕ) (w : Shows half h xs ls) where
    -- an accepted clock call takes each line on by the rule
    pub clock_shows : (clock_of h xs t m).answer ≡ Done
        → Shows half (clock_of h xs t m).state (clock_records_of h xs t m) (all_generations_after half ls (accepted_clock t m))
    clock_shows e =
        let new = all_generations_to half t m 0 ls in
        let many : length new ≡ h.used = lines_to_length half t m 0 ls ∙ w.as_many in
        let after : clock_records_of h xs t m ≡ map record_of new ++ drop h.used xs
        = clock_mints h xs t m e ls w.shown ∙ ap (λ (k : ℕ). map record_of (all_generations_to k t m 0 ls) ++ drop h.used xs) w.half_is in
        subst (λ (g : HeadEnd). Shows half g (clock_records_of h xs t m) new) (sym (clock_state h xs t m e))
        (record {
          half_is = w.half_is;
          shown = ap (take h.used) after ∙ take_at (map record_of new) (drop h.used xs) h.used (length-map new record_of ∙ many);
          as_many = many;
        })

-- a fresh head-end has no record in use
pub fresh_shows : (settings : Settings) (xs : List Assoc) → Shows (half_of settings.tek) (fresh_of settings) xs []
fresh_shows settings xs = record { half_is = refl; shown = refl; as_many = refl }
