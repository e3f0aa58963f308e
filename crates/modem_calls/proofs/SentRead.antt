-- The head-end reads what a modem sends: each message's fields come back as they were, also with padding behind.
use mathlib.Core.Bool.{true}
use mathlib.Core.Path.{◌≡◌, refl, sym, ap, ◌∙◌, subst}
use mathlib.Core.List.{List, [], ◌++◌, append-nil}
use Prim.Native.Nat.{ℕ}
use Rattle.questions.specs.Answer.{Done}
use Rattle.message_rules.specs.declared.fields.Reading.{Reading}
use Rattle.message_rules.specs.declared.fields.Receiver.{Receiver}
use Rattle.message_rules.specs.declared.fields.Receiver.TheVariants.{HeadEnd}
use Rattle.message_rules.specs.Messages.{receiver_of}
use Rattle.message_rules.specs.Reading.{read_of}
use Rattle.message_rules.specs.Ranges.{is_required_of}
use Rattle.digest_hmac.specs.Hmac.{hmac}
use Rattle.message_digest.specs.Digest.{digest_holds_of, bare}
use Rattle.message_digest.proofs.SignedLaws.{signed_read, signed_holds}
use Rattle.message_rules.proofs.FieldsFit.{Shaped}
use Rattle.message_rules.proofs.WrittenRead.{key_place, digest_place}
use Rattle.modem_tek.specs.declared.parts.Request.{Request}
use Rattle.modem_calls.specs.Messages.{request_fields_of, request_octets, RequestFits}

-- It is one that the head-end receives
abbrev pub Upward : Request → Type 0
Upward r = receiver_of r.code ≡ HeadEnd

request_shaped : (r : Request) → Shaped (request_fields_of r)
request_shaped r = record { descriptors = refl; older = record { tek = refl; vector = refl }; newer = record { tek = refl; vector = refl } }

abbrev read_back_of : List ℕ → Request → Reading
read_back_of key r =
    let f = request_fields_of r in
    record { answer = Done; fields = f; key = key_place f []; digest = digest_place f [] (hmac key (bare f [])) }

-- Under every message key
module _ (key : List ℕ) (r : Request) where
  padded_read : (padding : List ℕ) → RequestFits r → Upward r → read_of HeadEnd (request_octets key r ++ padding) ≡ read_back_of key r
  unfolding request_octets
  padded_read padding f up =
      subst (λ (e : Receiver). read_of e (request_octets key r ++ padding) ≡ read_back_of key r) up
      (signed_read (request_fields_of r) [] key padding (request_shaped r) f.fields f.no_key)

  pub request_read : RequestFits r → Upward r
      → ((read_of HeadEnd (request_octets key r)).answer ≡ Done) × ((read_of HeadEnd (request_octets key r)).fields ≡ request_fields_of r)
  request_read f up =
      let e : read_of HeadEnd (request_octets key r) ≡ read_back_of key r = ap (read_of HeadEnd) (sym (append-nil (request_octets key r))) ∙ padded_read [] f up in
      (ap (λ (x : Reading). x.answer) e, ap (λ (x : Reading). x.fields) e)

  -- The digest of a Key Request holds at the head-end under the key that it was written with, also with padding behind
  pub request_holds : (padding : List ℕ) → RequestFits r → Upward r → is_required_of r.code 11 ≡ true
      → digest_holds_of key (read_of HeadEnd (request_octets key r ++ padding)).digest (request_octets key r ++ padding) ≡ true
  unfolding request_octets
  request_holds padding f up h =
      subst (λ (e : Receiver). digest_holds_of key (read_of e (request_octets key r ++ padding)).digest (request_octets key r ++ padding) ≡ true) up
      (signed_holds (request_fields_of r) [] key padding (request_shaped r) f.fields f.no_key h)
