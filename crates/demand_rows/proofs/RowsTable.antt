-- HMAC-SHA-1 with the digests of the rows' messages at hand: the same function, as RowsDigests.antt has each digest, and a run by it computes
-- none. The cipher likewise, with the octets of the rows' frames of RowsCiphered.antt. What is found of a run by them holds of the run.
use mathlib.Core.Path.{◌≡◌, refl, sym, ap, ap₂, fun_ext, ◌∙◌}
use mathlib.Core.Bool.{Bool, true, false, cond, ◌&&◌}
use mathlib.Core.List.{List, [], ◌∷◌}
use Prim.Native.Nat.{ℕ}
use Rattle.questions.proofs.TestLaws.{both}
use Rattle.digest_hmac.specs.Hmac.{hmac, same}
use Rattle.digest_hmac.proofs.SameLaws.{same_equal}
use Rattle.cipher_cbc.specs.Cbc.{seal_aes, open_aes}
use Rattle.demand_plant.specs.World.{World, Step}
use Rattle.demand_rows.proofs.RowsMessages.{up_key, down_key, other_key, request2·7, request3·7, request3·8, request4·7, request5·8, reply_first_of, reply7, reply8, second7, second8, next7, next8, reply_sixteen, tek_invalid}
use Rattle.demand_rows.proofs.RowsDigests.{over_in, digest_in, other_digest_of, request2·7-digest, request3·7-digest, request3·8-digest, request4·7-digest, request5·8-digest, reply_first_digest, reply7_digest, reply8_digest, second7_digest, second8_digest, next7_digest, next8_digest, reply_sixteen_digest, tek_invalid_digest, other_digest}
use Rattle.demand_rows.proofs.RowsCiphered.{Ciphered, cipherings}
use Rattle.demand_rows.proofs.RowsMoved.{Mac, Cipher, Moved, moved, moved_by, moved_same}

-- A digest, with its key and the octets that it is over
pub record Entry : Type 0 where
  pub key : List ℕ
  pub over : List ℕ
  pub digest : List ℕ
  pub right : hmac key over ≡ digest

abbrev entry : (key m : List ℕ) → hmac key (over_in m) ≡ digest_in m → Entry
entry key m right = record { key = key; over = over_in m; digest = digest_in m; right = right }

-- The digest of the first entry that has both; HMAC-SHA-1 where there is none
abbrev pub lookup : List Entry → Mac
lookup [] k m = hmac k m
lookup (e ∷ es) k m = cond (same e.over m && same e.key k) e.digest (lookup es k m)

chosen : (b : Bool) (here later is : List ℕ) → (b ≡ true → here ≡ is) → later ≡ is → cond b here later ≡ is
chosen true here later is found e = found refl
chosen false here later is found e = e

lookup_same : (es : List Entry) (k m : List ℕ) → lookup es k m ≡ hmac k m
lookup_same [] k m = refl
lookup_same (e ∷ es) k m = chosen (same e.over m && same e.key k) e.digest (lookup es k m) (hmac k m) here (lookup_same es k m)
  where
    here : same e.over m && same e.key k ≡ true → e.digest ≡ hmac k m
    here t =
        let p = both (same e.over m) (same e.key k) t in
        sym e.right ∙ ap₂ hmac (same_equal e.key k p.1) (same_equal e.over m p.0)

-- The octets of the first frame with the key and the octets asked for; the cipher where there is none
abbrev is_of : List ℕ → List ℕ → List ℕ → List ℕ → List ℕ → List ℕ → Bool
is_of frame tek vector f k v = same frame f && same tek k && same vector v

abbrev pub seal_lookup : List Ciphered → Cipher
seal_lookup [] k v f = seal_aes k v f
seal_lookup (e ∷ es) k v f = cond (is_of e.plain e.tek e.vector f k v) e.sealed (seal_lookup es k v f)

abbrev pub open_lookup : List Ciphered → Cipher
open_lookup [] k v f = open_aes k v f
open_lookup (e ∷ es) k v f = cond (is_of e.sealed e.tek e.vector f k v) e.plain (open_lookup es k v f)

is-of : (C : Cipher) (frame tek vector f k v : List ℕ) → is_of frame tek vector f k v ≡ true → C tek vector frame ≡ C k v f
is-of C frame tek vector f k v t =
    let p₂ = both (same frame f && same tek k) (same vector v) t in
    let p₁ = both (same frame f) (same tek k) p₂.0 in
    ap (λ (x : List ℕ). C x vector frame) (same_equal tek k p₁.1)
    ∙ ap (λ (x : List ℕ). C k x frame) (same_equal vector v p₂.1)
    ∙ ap (C k v) (same_equal frame f p₁.0)

seal_same : (es : List Ciphered) (k v f : List ℕ) → seal_lookup es k v f ≡ seal_aes k v f
seal_same [] k v f = refl
seal_same (e ∷ es) k v f =
    chosen (is_of e.plain e.tek e.vector f k v) e.sealed (seal_lookup es k v f) (seal_aes k v f)
    (λ t. sym e.seals ∙ is-of seal_aes e.plain e.tek e.vector f k v t) (seal_same es k v f)

open_same : (es : List Ciphered) (k v f : List ℕ) → open_lookup es k v f ≡ open_aes k v f
open_same [] k v f = refl
open_same (e ∷ es) k v f =
    chosen (is_of e.sealed e.tek e.vector f k v) e.plain (open_lookup es k v f) (open_aes k v f)
    (λ t. sym e.opens ∙ is-of open_aes e.sealed e.tek e.vector f k v t) (open_same es k v f)

-- ---- the rows' messages
abbrev pub table : List Entry
table =
    entry up_key request2·7 request2·7-digest
    ∷ entry up_key request3·7 request3·7-digest
    ∷ entry up_key request3·8 request3·8-digest
    ∷ entry up_key request4·7 request4·7-digest
    ∷ entry up_key request5·8 request5·8-digest
    ∷ entry down_key reply_first_of reply_first_digest
    ∷ entry down_key reply7 reply7_digest
    ∷ entry down_key reply8 reply8_digest
    ∷ entry down_key second7 second7_digest
    ∷ entry down_key second8 second8_digest
    ∷ entry down_key next7 next7_digest
    ∷ entry down_key next8 next8_digest
    ∷ entry down_key reply_sixteen reply_sixteen_digest
    ∷ entry down_key tek_invalid tek_invalid_digest
    ∷ record { key = other_key; over = over_in reply7; digest = other_digest_of; right = other_digest }
    ∷ []

-- ---- a step by the tables, which is the step
abbrev pub quick_seal_of : Cipher
quick_seal_of = seal_lookup cipherings

abbrev quick_open_of : Cipher
quick_open_of = open_lookup cipherings

abbrev pub quick : World → Step → Moved
quick = moved_by (lookup table) quick_seal_of quick_open_of

pub lookup_hmac : lookup table ≡ hmac
lookup_hmac = fun_ext (λ k. fun_ext (λ m. lookup_same table k m))

pub quick_seal : quick_seal_of ≡ seal_aes
quick_seal = fun_ext (λ k. fun_ext (λ v. fun_ext (λ f. seal_same cipherings k v f)))

quick_open : quick_open_of ≡ open_aes
quick_open = fun_ext (λ k. fun_ext (λ v. fun_ext (λ f. open_same cipherings k v f)))

pub quick_same : quick ≡ moved
quick_same =
    fun_ext
    (λ w. fun_ext
    (λ s. ap (λ (H : Mac). moved_by H quick_seal_of quick_open_of w s) lookup_hmac
    ∙ ap₂ (λ (S : Cipher) (O : Cipher). moved_by hmac S O w s) quick_seal quick_open
    ∙ moved_same w s))
