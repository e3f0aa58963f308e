-- What a call's passed questions say: the facts of each, from the answer `Done`.
use mathlib.Core.Logic.{◌⊎◌, inl, inr}
use mathlib.Core.Path.{◌≡◌, refl}
use mathlib.Core.Bool.{Bool, true, ◌&&◌}
use mathlib.Core.List.{List, [], ◌∷◌}
use Prim.Native.Nat.{ℕ, ◌+◌, ◌*◌, ◌<◌, ◌≤◌}
use native.Mathlib.Omega.{arith}
use lib.Dec.{leb, ltb, eqb}
use borrow.Author.Tests.{leb-true, ltb-true, eqb-true}
use Rattle.questions.specs.Answer.{Answer, Done, Refused}
use Rattle.questions.specs.declared.refusal.Refusal.TheVariants.{OutOfLimits, WrongLength, WrongIdentifier}
use Rattle.questions.specs.Questions.{Question, first_no, answer_then}
use Rattle.questions.proofs.TestLaws.{both, either}
use Rattle.key_association.specs.declared.listing.Listing.{Listing}
use Rattle.key_association.specs.declared.search.Found.{Found}
use Rattle.key_traffic.specs.Addresses.{said_fits_of, address_fits_of}
use Rattle.message_rules.specs.declared.fields.Reading.{Reading}
use Rattle.questions.proofs.AnswerLaws.{done_met}
use Rattle.headend_state.specs.declared.state.HeadEnd.{HeadEnd}
use Rattle.headend_state.specs.Entries.{entries_of, known_of}
use Rattle.headend_limits.specs.Limits.{listing_fits_of, saids_differ_of, all_apart_of, head_fits_of}
use Rattle.headend_limits.specs.Search.{records_fit_of}
use Rattle.headend_steps.specs.Listing.{list_questions, list_answer_of}
use Rattle.headend_steps.specs.Clock.{clock_questions, clock_answer_of}
use Rattle.headend_steps.specs.Receive.{record_suits_of, identifier_fits_of, receive_answer_of}

-- ---- answers
then_done : (a b : Answer) → answer_then a b ≡ Done → (a ≡ Done) × (b ≡ Done)
then_done Done b e = (refl, e)
then_done (Refused r) b e = let z : ◌≡◌ {A = ℕ} 0 1 = cc in absurd (omega arith)

-- ---- the records in use are all lent, and none of those lent is out of its limits
pub records_in : (h : HeadEnd) (bad len : ℕ) → records_fit_of h bad len ≡ true → h.used ≤ len → h.used ≤ bad
records_in h bad len e all = go (either (leb h.used bad) (leb len bad) e)
  where
    go : (leb h.used bad ≡ true) ⊎ (leb len bad ≡ true) → h.used ≤ bad
    go (inl x) = leb-true h.used bad x
    go (inr x) = omega (arith, leb-true len bad x, all)

-- ---- a listing
module _ (h : HeadEnd) (address allowed : ℕ) (l : Listing) where
  module _ (bad clash len octets : ℕ) where
    pub record ListAsked : Type 0 where
      pub fits : head_fits_of h ≡ true
      pub records-fit : h.used ≤ bad
      pub address-fits : address_fits_of address ≡ true
      pub flag : allowed ≤ 1
      pub listing-fits : listing_fits_of l ≡ true
      pub lent : h.used ≤ len
      pub material : octets ≡ l.count * 64
      pub entry_room : h.modems < 16
      pub few : h.used + l.count ≤ 64
      pub record_room : h.used + l.count ≤ len
      pub apart : all_apart_of address l (entries_of h) ≡ true
      pub unclashed : h.used ≤ clash
      pub differ : saids_differ_of l ≡ true

    pub list_asked : list_answer_of h address allowed l bad clash len octets ≡ Done → ListAsked
    unfolding list_answer_of list_questions
    list_asked e =
        let q = done_met (list_questions h address allowed l bad clash len octets) e in
        let a₄ = both (head_fits_of h && records_fit_of h bad len && address_fits_of address && leb allowed 1) (listing_fits_of l) q.0 in
        let a₃ = both (head_fits_of h && records_fit_of h bad len && address_fits_of address) (leb allowed 1) a₄.0 in
        let a₂ = both (head_fits_of h && records_fit_of h bad len) (address_fits_of address) a₃.0 in
        let a₁ = both (head_fits_of h) (records_fit_of h bad len) a₂.0 in
        let b₁ = both (leb h.used len) (eqb octets (l.count * 64)) q.1.0 in
        let d₂ = both (ltb h.modems 16 && leb (h.used + l.count) 64) (leb (h.used + l.count) len) q.1.1.0 in
        let d₁ = both (ltb h.modems 16) (leb (h.used + l.count) 64) d₂.0 in
        let n₂ = both (all_apart_of address l (entries_of h) && leb h.used clash) (saids_differ_of l) q.1.1.1.0 in
        let n₁ = both (all_apart_of address l (entries_of h)) (leb h.used clash) n₂.0 in
        record {
          fits = a₁.0;
          records-fit = records_in h bad len a₁.1 (leb-true _ _ b₁.0);
          address-fits = a₂.1;
          flag = leb-true _ _ a₃.1;
          listing-fits = a₄.1;
          lent = leb-true _ _ b₁.0;
          material = eqb-true _ _ b₁.1;
          entry_room = ltb-true _ _ d₁.0;
          few = leb-true _ _ d₁.1;
          record_room = leb-true _ _ d₂.1;
          apart = n₁.0;
          unclashed = leb-true _ _ n₁.1;
          differ = n₂.1;
        }

-- ---- the clock
module _ (h : HeadEnd) (t : ℕ) where
  module _ (bad len octets : ℕ) where
    pub record ClockAsked : Type 0 where
      pub fits : head_fits_of h ≡ true
      pub records-fit : h.used ≤ bad
      pub lent : h.used ≤ len
      pub material : octets ≡ h.used * 64
      pub on : h.clock ≤ t
      pub small : t ≤ 1000000000000

    pub clock_asked : clock_answer_of h t bad len octets ≡ Done → ClockAsked
    unfolding clock_answer_of clock_questions
    clock_asked e =
        let q = done_met (clock_questions h t bad len octets) e in
        let a₁ = both (head_fits_of h) (records_fit_of h bad len) q.0 in
        let b₁ = both (leb h.used len) (eqb octets (h.used * 64)) q.1.0 in
        let d₁ = both (leb h.clock t) (leb t 1000000000000) q.1.1.0 in
        record {
          fits = a₁.0;
          records-fit = records_in h bad len a₁.1 (leb-true _ _ b₁.0);
          lent = leb-true _ _ b₁.0;
          material = eqb-true _ _ b₁.1;
          on = leb-true _ _ d₁.0;
          small = leb-true _ _ d₁.1;
        }

-- ---- a message
module _ (h : HeadEnd) (bad len : ℕ) (s : Found) (address : ℕ) (digest keys : Bool) (r : Reading) (key lent : ℕ) where
  pub record ReceiveAsked : Type 0 where
    pub fits : head_fits_of h ≡ true
    pub records-fit : h.used ≤ bad
    pub address-fits : address_fits_of address ≡ true
    pub said_fits : said_fits_of r.fields.said ≡ true
    pub record-suits : record_suits_of h len s (known_of h address) digest r.fields ≡ true
    pub answer_room : 342 ≤ lent
    pub key_some : 1 ≤ key
    pub key_small : key ≤ 256
    pub keys-fit : keys ≡ true
    pub records_lent : h.used ≤ len
    pub read : r.answer ≡ Done
    pub identifier : identifier_fits_of r.fields ≡ true

  abbrev first : List Question
  first =
      record {
        refusal = OutOfLimits;
        met = head_fits_of h && records_fit_of h bad len && address_fits_of address && said_fits_of r.fields.said && record_suits_of h len s (known_of h address) digest r.fields;
      }
      ∷ record { refusal = WrongLength; met = leb 342 lent && leb 1 key && leb key 256 && keys && leb h.used len }
      ∷ []

  abbrev last : List Question
  last = record { refusal = WrongIdentifier; met = identifier_fits_of r.fields } ∷ []

  pub receive_asked : receive_answer_of h bad len s address digest keys r key lent ≡ Done → ReceiveAsked
  unfolding receive_answer_of
  receive_asked e =
      let k = known_of h address in
      let p = then_done (first_no first) (answer_then r.answer (first_no last)) e in
      let p' = then_done r.answer (first_no last) p.1 in
      let q = done_met first p.0 in
      let a₄ = both (head_fits_of h && records_fit_of h bad len && address_fits_of address && said_fits_of r.fields.said) (record_suits_of h len s k digest r.fields) q.0 in
      let a₃ = both (head_fits_of h && records_fit_of h bad len && address_fits_of address) (said_fits_of r.fields.said) a₄.0 in
      let a₂ = both (head_fits_of h && records_fit_of h bad len) (address_fits_of address) a₃.0 in
      let a₁ = both (head_fits_of h) (records_fit_of h bad len) a₂.0 in
      let b₄ = both (leb 342 lent && leb 1 key && leb key 256 && keys) (leb h.used len) q.1.0 in
      let b₃ = both (leb 342 lent && leb 1 key && leb key 256) keys b₄.0 in
      let b₂ = both (leb 342 lent && leb 1 key) (leb key 256) b₃.0 in
      let b₁ = both (leb 342 lent) (leb 1 key) b₂.0 in
      record {
        fits = a₁.0;
        records-fit = records_in h bad len a₁.1 (leb-true _ _ b₄.1);
        address-fits = a₂.1;
        said_fits = a₃.1;
        record-suits = a₄.1;
        answer_room = leb-true _ _ b₁.0;
        key_some = leb-true _ _ b₁.1;
        key_small = leb-true _ _ b₂.1;
        keys-fit = b₃.1;
        records_lent = leb-true _ _ b₄.1;
        read = p'.0;
        identifier = (done_met last p'.1).0;
      }
