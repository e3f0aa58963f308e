-- A message with a digest as octets: what the sum is over, and that the digest that a key gives holds under it.
use Prim.Native.Nat.{ℕ, ◌+◌, ◌-◌, ◌≤◌, ◌<◌}
use mathlib.Core.Path.{◌≡◌, refl, sym, ap, ◌∙◌}
use mathlib.Core.Bool.{Bool, true, false, ◌&&◌}
use mathlib.Core.List.{List, [], ◌∷◌, ◌++◌, append_assoc}
use native.Mathlib.Omega.{arith}
use borrow.Author.Tests.{eq-eqb, ne_eqb}
use lib.Dec.{eqb}
use lib.ListN.{length, take, drop, length-append}
use lib.Seq.{take_at, drop_at}
use Rattle.digest_hmac.specs.Hmac.{hmac, holds}
use Rattle.digest_hmac.proofs.FillLaws.{length_hmac, holds_short}
use Rattle.digest_hmac.proofs.SameLaws.{same_refl}
use Rattle.message_rules.specs.declared.fields.Fields.{Fields}
use Rattle.message_rules.specs.declared.fields.Place.{Place}
use Rattle.message_rules.specs.Ranges.{is_required_of}
use Rattle.message_rules.specs.Writing.{message_of, no_digest_of}
use Rattle.message_rules.proofs.ReadWritten.{before_digest}
use Rattle.message_digest.specs.Digest.{covered_up_to_of, digest_holds_of, bare, signed_of}

none_held : (b : Bool) → b && false ≡ false
none_held true = refl
none_held false = refl

-- ---- what is asked of a place that a reading gives
module _ (key : List ℕ) (p : Place) (s : List ℕ) where
  pub no_digest : (p.len ≡ 20 → ⊥) → false ≡ digest_holds_of key p s
  unfolding digest_holds_of
  no_digest h = rw (ne_eqb p.len 20 h)

  pub asked : p.len ≡ 20 → holds s (covered_up_to_of p) key p.start ≡ digest_holds_of key p s
  unfolding digest_holds_of
  asked h = sym (ap (λ (b : Bool). b && holds s (covered_up_to_of p) key p.start) (eq-eqb p.len 20 h))

  pub no_room : length s < p.start + 20 → false ≡ digest_holds_of key p s
  unfolding digest_holds_of
  no_room h = sym (ap (λ (b : Bool). eqb p.len 20 && b) (holds_short s _ key p.start h) ∙ none_held (eqb p.len 20))

-- ---- octets p, the head of a digest attribute, a digest, and what follows
module _ (p digest padding : List ℕ) (n : length digest ≡ 20) where
  abbrev headed : List ℕ
  headed = p ++ (11 ∷ 0 ∷ 20 ∷ [])

  all_is : (p ++ (11 ∷ 0 ∷ 20 ∷ digest)) ++ padding ≡ headed ++ (digest ++ padding)
  all_is = simp append_assoc

  pub front_taken : take (length p) ((p ++ (11 ∷ 0 ∷ 20 ∷ digest)) ++ padding) ≡ p
  front_taken = rw append_assoc (take_at p ((11 ∷ 0 ∷ 20 ∷ digest) ++ padding) (length p) refl)

  pub digest_taken : take 20 (drop (length p + 3) ((p ++ (11 ∷ 0 ∷ 20 ∷ digest)) ++ padding)) ≡ digest
  digest_taken =
      let k : length headed ≡ length p + 3 = length-append p (11 ∷ 0 ∷ 20 ∷ []) in
      ap (λ (l : List ℕ). take 20 (drop (length p + 3) l)) all_is
      ∙ ap (take 20) (drop_at headed (digest ++ padding) (length p + 3) k)
      ∙ take_at digest padding 20 n

module _ (f : Fields) (auth : List ℕ) (low : 4 ≤ f.code) (high : f.code ≤ 12) (h : is_required_of f.code 11 ≡ true) where
  abbrev pub front : List ℕ
  front = (before_digest f auth low high h).0

  pub written_is : (digest : List ℕ) → length digest ≡ 20 → message_of f auth digest ≡ front ++ (11 ∷ 0 ∷ 20 ∷ digest)
  written_is = (before_digest f auth low high h).1

  bare_is : bare f auth ≡ front
  unfolding bare
  bare_is =
      let e = written_is no_digest_of refl in
      rw e (take_at front (11 ∷ 0 ∷ 20 ∷ no_digest_of) (length (front ++ (11 ∷ 0 ∷ 20 ∷ no_digest_of)) - 23) (omega (arith, length-append front (11 ∷ 0 ∷ 20 ∷ no_digest_of))))

  pub signed_is : (key : List ℕ) → signed_of f auth key ≡ front ++ (11 ∷ 0 ∷ 20 ∷ hmac key front)
  unfolding signed_of
  signed_is key = ap (λ (b : List ℕ). message_of f auth (hmac key b)) bare_is ∙ written_is (hmac key front) (length_hmac key front)

  -- the digest that was written holds at the message's last 20 octets, whatever padding follows
  pub signed_right : (key padding : List ℕ) → digest_holds_of key (record { start = length (signed_of f auth key) - 20; len = 20 }) (signed_of f auth key ++ padding) ≡ true
  unfolding digest_holds_of holds
  signed_right key padding =
      let d = hmac key front in
      let n = length_hmac key front in
      let at : length (signed_of f auth key) - 20 ≡ length front + 3 =
      omega (arith, ap length (signed_is key), length-append front (11 ∷ 0 ∷ 20 ∷ d), n) in
      let up : length front + 3 - 3 ≡ length front = omega arith in
      rw (at, up, signed_is key, front_taken front d padding n, digest_taken front d padding n) (same_refl d)
