-- The messages of one call in a lent slice: one after the other from its front.
use mathlib.Core.Path.{◌≡◌, refl, sym, ◌∙◌, ap}
use mathlib.Core.List.{List, [], ◌∷◌, ◌++◌, append_assoc, append-nil}
use Prim.Native.Nat.{ℕ, ◌+◌, ◌-◌, ◌≤◌, ◌<◌}
use native.Mathlib.Numerals.{add-one}
use native.Mathlib.Omega.{arith}
use lib.ListN.{length, take, drop, get_or, length-append, length-take, length-drop, drop_of_length-le}
use lib.Seq.{sets, sets-eq, take_all, take-suc, drop-drop}
use borrow.Rule.Slice.PartMut.{put_mid, mid_of}
use Rattle.key_traffic.specs.Octets.{overlay}
use Rattle.modem_tek.specs.declared.parts.Request.{Request}
use Rattle.modem_tek.specs.TekParts.{nothing}
use Rattle.message_rules.specs.declared.fields.Fields.{Fields}
use Rattle.message_digest.specs.Written.{written_of, write_of}
use Rattle.message_digest.proofs.CallLaws.{call_done}
use Rattle.key_traffic.proofs.StoreLaws.{sets_append}
use Rattle.modem_calls.specs.Messages.{request_fields_of, request_octets, requests_octets, RequestFits}

-- ---- one message
module _ (r : Request) (fits : RequestFits r) (key : List ℕ) (twenty : length key ≡ 20) (lent : ℕ) (enough : 36 ≤ lent) where
  pub request_written : written_of (request_fields_of r) [] key lent ≡ request_octets key r
  unfolding request_octets
  request_written = (call_done (request_fields_of r) [] key lent fits.fields fits.no_key twenty (omega (arith, fits.short key, enough))).1

  pub request_count : (write_of (request_fields_of r) [] key lent).count ≡ length (request_octets key r)
  unfolding write_of
  request_count = ap length request_written

-- ---- a part of a slice that is written at its front
pub part_put : (out : List ℕ) (at : ℕ) (vs part : List ℕ) → at + length vs ≤ length out → part ≡ overlay (mid_of at (length out - at) out) vs
    → put_mid at (length out - at) out part ≡ sets out at vs
part_put out at vs part inside e =
    let left : length (drop at out) ≡ length out - at = length-drop at out in
    let few : length (drop at out) ≤ length out - at = omega arith in
    let all : take (length out - at) (drop at out) ≡ drop at out = take_all (length out - at) (drop at out) few in
    let none : drop (length out - at) (drop at out) ≡ [] = drop_of_length-le (drop at out) few in
    ap (λ (p : List ℕ). put_mid at (length out - at) out p) e
    ∙ ap (λ (m : List ℕ). take at out ++ ((vs ++ drop (length vs) m) ++ drop (length out - at) (drop at out))) all
    ∙ ap (λ (m : List ℕ). take at out ++ ((vs ++ drop (length vs) (drop at out)) ++ m)) none
    ∙ ap (λ (m : List ℕ). take at out ++ m) (append-nil (vs ++ drop (length vs) (drop at out)))
    ∙ ap (λ (m : List ℕ). take at out ++ (vs ++ m)) (drop-drop (length vs) at out)
    ∙ sym (append_assoc (take at out) vs (drop (at + length vs) out))
    ∙ sym (sets-eq vs out at inside)

-- ---- one message more
pub requests_append : (key : List ℕ) (a b : List Request) → requests_octets key (a ++ b) ≡ requests_octets key a ++ requests_octets key b
unfolding requests_octets
requests_append key [] b = refl
requests_append key (r ∷ a) b =
    ap (λ (l : List ℕ). request_octets key r ++ l) (requests_append key a b) ∙ sym (append_assoc (request_octets key r) (requests_octets key a) (requests_octets key b))

module _ (key : List ℕ) (sent : List Request) (i : ℕ) (inside : i < length sent) where
  abbrev front : List ℕ
  front = requests_octets key (take i sent)

  abbrev next : List ℕ
  next = request_octets key (get_or sent i nothing)

  pub requests_more : requests_octets key (take (i + 1) sent) ≡ front ++ next
  unfolding requests_octets
  requests_more =
      ap (λ (k : ℕ). requests_octets key (take k sent)) (add-one i) ∙ ap (requests_octets key) (take-suc sent i nothing inside)
      ∙ requests_append key (take i sent) (get_or sent i nothing ∷ []) ∙ ap (λ (l : List ℕ). front ++ l) (append-nil next)

  pub put_more : (lent out : List ℕ) (at : ℕ) → out ≡ sets lent 0 (requests_octets key (take i sent)) → at ≡ length (requests_octets key (take i sent))
      → sets out at (request_octets key (get_or sent i nothing)) ≡ sets lent 0 (requests_octets key (take (i + 1) sent))
  put_more lent out at e a =
      ap (λ (l : List ℕ). sets l at next) e
      ∙ ap (λ (k : ℕ). sets (sets lent 0 front) k next) (a ∙ zero_plus (length front))
      ∙ sym (sets_append front next lent 0)
      ∙ ap (sets lent 0) (sym requests_more)
    where
      zero_plus : (n : ℕ) → n ≡ 0 + n
      zero_plus n = omega arith

  pub length_more : (at n : ℕ) → at ≡ length (requests_octets key (take i sent)) → n ≡ at + length (request_octets key (get_or sent i nothing))
      → n ≡ length (requests_octets key (take (i + 1) sent))
  length_more at n a e = e ∙ rw (requests_more, length-append, a)

-- ---- all of them
pub put_all : (lent : List ℕ) (vs : List ℕ) → length vs ≤ length lent → sets lent 0 vs ≡ overlay lent vs
put_all lent vs inside =
    let from : 0 + length vs ≡ length vs = omega arith in
    sets-eq vs lent 0 (rw from inside) ∙ ap (λ (k : ℕ). vs ++ drop k lent) from

-- ---- what the writer leaves of a message written from a place on
module _ (r : Request) (fits : RequestFits r) (key : List ℕ) (twenty : length key ≡ 20) (f : Fields) (is : f ≡ request_fields_of r) (out : List ℕ) (at : ℕ)
    (room : at + 36 ≤ length out) where
  abbrev mid : List ℕ
  mid = mid_of at (length out - at) out

  mid_long : 36 ≤ length mid
  mid_long = rw (length-take (length out - at) (drop at out), length-drop at out) (omega arith)

  pub put_count : (n : ℕ) → n ≡ (write_of f [] key (length mid)).count → n ≡ length (request_octets key r)
  put_count n e = e ∙ ap (λ (g : Fields). (write_of g [] key (length mid)).count) is ∙ request_count r fits key twenty (length mid) mid_long

  pub put_at : (n : ℕ) (part : List ℕ) → n ≡ (write_of f [] key (length mid)).count → part ≡ overlay mid (written_of f [] key (length mid))
      → (put_mid at (length out - at) out part ≡ sets out at (request_octets key r)) × ((at + n ≡ at + length (request_octets key r)) × (at + n ≤ at + 36))
  put_at n part e p =
      let count = put_count n e in
      let short = fits.short key in
      let written : written_of f [] key (length mid) ≡ request_octets key r =
      ap (λ (g : Fields). written_of g [] key (length mid)) is ∙ request_written r fits key twenty (length mid) mid_long in (
        part_put out at (request_octets key r) part (omega (arith, short)) (p ∙ ap (overlay mid) written),
        (ap (λ (k : ℕ). at + k) count, omega (arith, count, short)),
      )
