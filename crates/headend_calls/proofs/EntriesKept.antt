-- Entries in use stay within their limits (`headend_limits/specs/Limits.antt`): with one more behind them, at a later clock, and with the
-- authorization keys of one exchanged.
use mathlib.Core.Path.{◌≡◌, refl, sym, ◌∙◌, ap, subst}
use mathlib.Core.Bool.{Bool, true, false, ◌&&◌}
use mathlib.Core.Logic.{inr}
use mathlib.Core.List.{List, [], ◌∷◌, ◌++◌, append-nil}
use Prim.Native.Nat.{ℕ, zero, suc, ◌+◌, ◌≤◌, ◌<◌}
use native.Mathlib.Numerals.{add-one}
use native.Mathlib.Omega.{arith}
use lib.Dec.{ltb}
use lib.ListN.{length, get_or, set, take}
use lib.Seq.{append_snoc, take-suc-set, take_all, set_out}
use borrow.Author.Tests.{le-leb}
use Rattle.questions.proofs.TestLaws.{both}
use Rattle.questions.proofs.ListLaws.{IfLt, if_lt}
use Rattle.key_association.specs.declared.listing.Listing.{Listing}
use Rattle.headend_state.specs.declared.state.AuthKeys.{AuthKeys}
use Rattle.headend_state.specs.declared.state.Entry.{Entry}
use Rattle.headend_state.specs.State.{no_keys, no_entry_of}
use Rattle.key_traffic.specs.Addresses.{address_fits_of}
use Rattle.headend_limits.specs.Limits.{listing_fits_of, saids_differ_of, auth_keys_fit_of, entry_fits_of, is_apart_of, all_apart_of, entries_from}
use Rattle.headend_answers.specs.Answers.{with_keys_of}
use Rattle.headend_limits.proofs.LimitsLaws.{keys_by, later_fits, entry_facts}

-- ---- an entry
pub none_fit : (life clock : ℕ) → auth_keys_fit_of life clock no_keys ≡ true
none_fit life clock =
    keys_by life clock no_keys
    (record {
      number = omega arith;
      older_near = omega arith;
      newer_near = λ past. omega arith;
      newer_after = λ ahead. omega arith;
      ordered = omega arith;
      rising = inr (refl, refl);
    })

pub entry_by : (life clock : ℕ) (e : Entry) → address_fits_of e.address ≡ true → e.allowed ≤ 1 → listing_fits_of e.listing ≡ true
    → saids_differ_of e.listing ≡ true → auth_keys_fit_of life clock e.keys ≡ true → entry_fits_of life clock e ≡ true
unfolding entry_fits_of
entry_by life clock e address allowed listing differ keys = rw (address, le-leb e.allowed 1 allowed, listing, differ, keys)

-- an entry within its limits with other keys, or at another clock
pub entry_with : (life clock t : ℕ) (e : Entry) (k : AuthKeys) → entry_fits_of life clock e ≡ true → auth_keys_fit_of life t k ≡ true
    → entry_fits_of life t (with_keys_of e k) ≡ true
entry_with life clock t e k fits keys =
    let i = entry_facts life clock e fits in
    entry_by life t (with_keys_of e k) i.address i.allowed i.listing-fits i.saids-differ keys

entry_later : (life clock t : ℕ) (e : Entry) → clock ≤ t → entry_fits_of life clock e ≡ true → entry_fits_of life t e ≡ true
entry_later life clock t e on fits =
    entry_with life clock t e e.keys fits (later_fits life clock t e.keys on (entry_facts life clock e fits).keys-fit)

-- ---- the test of entries, taken apart and put together
module _ (life clock : ℕ) (before : List Entry) (e : Entry) (es : List Entry) where
  pub record Parts : Type 0 where
    pub own : entry_fits_of life clock e ≡ true
    pub apart : all_apart_of e.address e.listing before ≡ true
    pub rest : entries_from life clock (before ++ (e ∷ [])) es ≡ true

  parts : entries_from life clock before (e ∷ es) ≡ true → Parts
  unfolding entries_from
  parts q =
      let s₂ = both (entry_fits_of life clock e && all_apart_of e.address e.listing before) (entries_from life clock (before ++ (e ∷ [])) es) q in
      let s₁ = both (entry_fits_of life clock e) (all_apart_of e.address e.listing before) s₂.0 in
      record { own = s₁.0; apart = s₁.1; rest = s₂.1 }

  whole : Parts → entries_from life clock before (e ∷ es) ≡ true
  unfolding entries_from
  whole p = rw (p.own, p.apart, p.rest)

nothing_fits : (life clock : ℕ) (before : List Entry) → entries_from life clock before [] ≡ true
unfolding entries_from
nothing_fits life clock before = refl

-- ---- one more behind them
pub one_more_fits : (life clock : ℕ) (before es : List Entry) (e : Entry) → entries_from life clock before es ≡ true → entry_fits_of life clock e ≡ true
    → all_apart_of e.address e.listing (before ++ es) ≡ true → entries_from life clock before (es ++ (e ∷ [])) ≡ true
one_more_fits life clock before [] e all own apart =
    whole life clock before e []
    (record {
      own = own;
      apart = subst (λ (l : List Entry). all_apart_of e.address e.listing l ≡ true) (append-nil before) apart;
      rest = nothing_fits life clock (before ++ (e ∷ []));
    })
one_more_fits life clock before (x ∷ es) e all own apart =
    let p = parts life clock before x es all in
    whole life clock before x (es ++ (e ∷ []))
    (record {
      own = p.own;
      apart = p.apart;
      rest = one_more_fits life clock (before ++ (x ∷ [])) es e p.rest own
          (subst (λ (l : List Entry). all_apart_of e.address e.listing l ≡ true) (sym (append_snoc before x es)) apart);
    })

-- ---- a later clock
pub later_entries : (life clock t : ℕ) (before es : List Entry) → clock ≤ t → entries_from life clock before es ≡ true → entries_from life t before es ≡ true
later_entries life clock t before [] on all = nothing_fits life t before
later_entries life clock t before (x ∷ es) on all =
    let p = parts life clock before x es all in
    whole life t before x es
    (record { own = entry_later life clock t x on p.own; apart = p.apart; rest = later_entries life clock t (before ++ (x ∷ [])) es on p.rest })

-- ---- the keys of one exchanged: its address and its listing stay, and what is apart from it stays so
abbrev Alike : List Entry → List Entry → Type 0
Alike b c = (address : ℕ) (l : Listing) → all_apart_of address l b ≡ all_apart_of address l c

alike_cons : (x y : Entry) (b c : List Entry) → ((address : ℕ) (l : Listing) → is_apart_of address l x ≡ is_apart_of address l y) → Alike b c → Alike (x ∷ b) (y ∷ c)
unfolding all_apart_of
alike_cons x y b c one all address l = rw (one address l, all address l)

alike_end : (x y : Entry) (b : List Entry) → ((address : ℕ) (l : Listing) → is_apart_of address l x ≡ is_apart_of address l y)
    → Alike (b ++ (x ∷ [])) (b ++ (y ∷ []))
alike_end x y [] one = alike_cons x y [] [] one (λ address l. refl)
alike_end x y (z ∷ b) one = alike_cons z z (b ++ (x ∷ [])) (b ++ (y ∷ [])) (λ address l. refl) (alike_end x y b one)

apart_append : (address : ℕ) (l : Listing) (b c : List Entry) → all_apart_of address l (b ++ c) ≡ (all_apart_of address l b && all_apart_of address l c)
unfolding all_apart_of
apart_append address l [] c = refl
apart_append address l (x ∷ b) c = go (is_apart_of address l x) (apart_append address l b c)
  where
    go : (t : Bool) → all_apart_of address l (b ++ c) ≡ (all_apart_of address l b && all_apart_of address l c)
        → (t && all_apart_of address l (b ++ c)) ≡ ((t && all_apart_of address l b) && all_apart_of address l c)
    go true e = e
    go false e = refl

alike_snoc : (b c : List Entry) (x : Entry) → Alike b c → Alike (b ++ (x ∷ [])) (c ++ (x ∷ []))
alike_snoc b c x all address l =
    apart_append address l b (x ∷ [])
    ∙ ap (λ (t : Bool). t && all_apart_of address l (x ∷ [])) (all address l)
    ∙ sym (apart_append address l c (x ∷ []))

alike_fits : (life clock : ℕ) (b c es : List Entry) → Alike b c → entries_from life clock b es ≡ true → entries_from life clock c es ≡ true
alike_fits life clock b c [] same all = nothing_fits life clock c
alike_fits life clock b c (x ∷ es) same all =
    let p = parts life clock b x es all in
    whole life clock c x es
    (record {
      own = p.own;
      apart = sym (same x.address x.listing) ∙ p.apart;
      rest = alike_fits life clock (b ++ (x ∷ [])) (c ++ (x ∷ [])) es (alike_snoc b c x same) p.rest;
    })

apart_with : (e : Entry) (k : AuthKeys) (address : ℕ) (l : Listing) → is_apart_of address l e ≡ is_apart_of address l (with_keys_of e k)
unfolding is_apart_of
apart_with e k address l = refl

pub rekeyed_fits : (life clock : ℕ) (before es : List Entry) (i : ℕ) (k : AuthKeys) → i < length es → auth_keys_fit_of life clock k ≡ true
    → entries_from life clock before es ≡ true → entries_from life clock before (set es i (with_keys_of (get_or es i no_entry_of) k)) ≡ true
rekeyed_fits life clock before [] i k small keys all = absurd (omega (arith, small))
rekeyed_fits life clock before (x ∷ es) zero k small keys all =
    let p = parts life clock before x es all in
    whole life clock before (with_keys_of x k) es
    (record {
      own = entry_with life clock clock x k p.own keys;
      apart = p.apart;
      rest = alike_fits life clock (before ++ (x ∷ [])) (before ++ (with_keys_of x k ∷ [])) es (alike_end x (with_keys_of x k) before (apart_with x k)) p.rest;
    })
rekeyed_fits life clock before (x ∷ es) (suc i) k small keys all =
    let p = parts life clock before x es all in
    whole life clock before x (set es i (with_keys_of (get_or es i no_entry_of) k))
    (record { own = p.own; apart = p.apart; rest = rekeyed_fits life clock (before ++ (x ∷ [])) es i k (omega arith) keys p.rest })

-- ---- the entries in use once one is put behind them; where there is no place for it they stay
pub grown_fits : (life clock n : ℕ) (es : List Entry) (e : Entry) → entries_from life clock [] (take n es) ≡ true → entry_fits_of life clock e ≡ true
    → all_apart_of e.address e.listing (take n es) ≡ true → entries_from life clock [] (take (n + 1) (set es n e)) ≡ true
grown_fits life clock n es e all own apart = go (ltb n (length es)) (if_lt n (length es))
  where
    go : (t : Bool) → IfLt n (length es) t → entries_from life clock [] (take (n + 1) (set es n e)) ≡ true
    go true room =
        let same : take n es ++ (e ∷ []) ≡ take (n + 1) (set es n e) =
        sym (take-suc-set es n e room) ∙ ap (λ (k : ℕ). take k (set es n e)) (sym (add-one n)) in
        subst (λ (l : List Entry). entries_from life clock [] l ≡ true) same (one_more_fits life clock [] (take n es) e all own apart)
    go false full =
        let same : take n es ≡ take (n + 1) (set es n e) =
        take_all n es full ∙ sym (take_all (n + 1) es (omega arith)) ∙ ap (take (n + 1)) (sym (set_out es n e full)) in
        subst (λ (l : List Entry). entries_from life clock [] l ≡ true) same all
