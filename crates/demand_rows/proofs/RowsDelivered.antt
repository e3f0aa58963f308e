-- A frame handed to an opening is one of an earlier sealing, as `FrameCopy` has it: a test by computation, and that it is enough.
use mathlib.Core.Path.{◌≡◌, refl, ap}
use mathlib.Core.Bool.{Bool, true, false, ◌&&◌, ◌||◌}
use mathlib.Core.Logic.{◌⊎◌, inl, inr}
use mathlib.Core.List.{List, [], ◌∷◌, Memᴰ}
use Prim.Native.Nat.{ℕ, ◌+◌}
use lib.Dec.{leb, eqb}
use lib.ListN.{length}
use borrow.Author.Tests.{leb-true, eqb-true}
use Rattle.questions.proofs.TestLaws.{both, either}
use Rattle.message_rules.proofs.HoldsLaws.{never}
use Rattle.digest_hmac.specs.Hmac.{same}
use Rattle.digest_hmac.proofs.SameLaws.{same_equal}
use Rattle.key_traffic.specs.Sealing.{KeyOut}
use Rattle.cipher_cbc.specs.Cbc.{seal_aes}
use Rattle.frame_octets.specs.Framed.{seal_under_of}
use Rattle.demand_plant.specs.World.{Carried, key_given_of, octets_given, Frame, Opening}
use Rattle.demand_plant.specs.Run.{Did}
use Rattle.demand_plant.specs.Claim.{Delivers, CarriedAs, Handed}
use Rattle.demand_plant.specs.Demand3.{FrameCopy}
use Rattle.demand_rows.proofs.RowsMoved.{Cipher}

abbrev fits : Frame → Opening → Bool
fits f o =
    eqb o.end f.direction
    && eqb o.direction f.direction
    && eqb o.address f.address
    && eqb o.said f.said
    && eqb o.number.0 f.number.0
    && o.long

delivers_by : (f : Frame) (o : Opening) → fits f o ≡ true → Delivers f o
delivers_by f o e =
    let p₅ = both _ _ e in
    let p₄ = both _ _ p₅.0 in
    let p₃ = both _ _ p₄.0 in
    let p₂ = both _ _ p₃.0 in
    let p₁ = both _ _ p₂.0 in
    record {
      receiver = eqb-true o.end f.direction p₁.0;
      direction = eqb-true o.direction f.direction p₁.1;
      address = eqb-true o.address f.address p₂.1;
      said = eqb-true o.said f.said p₃.1;
      number = ap (λ (n : ℕ). record { 0 = n }) (eqb-true o.number.0 f.number.0 p₄.1);
      long = p₅.1;
    }

-- The octets handed to an opening are the frame's: those that its sealing gave; where that gave the key, what S makes with it of the octets that
-- the opening gave, 12 or more
abbrev carries : Cipher → KeyOut → Carried → List ℕ → List ℕ → Bool
carries S k key_given_of c given = leb 12 (length given) && same c (S k.tek k.vector given)
carries S k (octets_given plain sealed) c given = same c sealed

abbrev is_handed : Cipher → Frame → Carried → Bool
is_handed S f key_given_of = true
is_handed S f (octets_given c given) = carries S f.out f.carried c given

-- The octets before they were sealed
abbrev plain_of : Carried → List ℕ → List ℕ
plain_of key_given_of given = given
plain_of (octets_given plain sealed) given = plain

abbrev plain_for : Frame → Carried → List ℕ
plain_for f key_given_of = []
plain_for f (octets_given c given) = plain_of f.carried given

carries_by : (k : KeyOut) (a : Carried) (c given : List ℕ) → carries seal_aes k a c given ≡ true → CarriedAs k a (plain_of a given) c
carries_by k key_given_of c given e =
    let p = both (leb 12 (length given)) (same c (seal_under_of k given)) e in
    (leb-true 12 (length given) p.0, same_equal c (seal_under_of k given) p.1)
carries_by k (octets_given plain sealed) c given e = (refl, same_equal c sealed e)

handed_by : (f : Frame) (o : Carried) → is_handed seal_aes f o ≡ true → Handed f (plain_for f o) o
handed_by f key_given_of e = tt
handed_by f (octets_given c given) e = carries_by f.out f.carried c given e

-- the frames and the openings here are one each at most: the first of each is asked
abbrev first_fits_of : Cipher → List Frame → List Opening → Bool
first_fits_of S [] os = false
first_fits_of S (f ∷ fs) [] = false
first_fits_of S (f ∷ fs) (o ∷ os) = fits f o && is_handed S f o.carried

abbrev pub is_delivered_of : Cipher → ℕ → ℕ → List Did → Did → Bool
is_delivered_of S F now [] b = false
is_delivered_of S F now (d ∷ ds) b = (first_fits_of S d.given.sealed b.given.opened && leb now (d.clock + F)) || is_delivered_of S F now ds b

record First (fs : List Frame) (os : List Opening) : Type 0 where
  frame : Frame
  sealed : Memᴰ frame fs
  opening : Opening
  opens : Memᴰ opening os
  delivers : Delivers frame opening
  plain : List ℕ
  handed : Handed frame plain opening.carried

first_of : (fs : List Frame) (os : List Opening) → first_fits_of seal_aes fs os ≡ true → First fs os
first_of [] os e = never e
first_of (f ∷ fs) [] e = never e
first_of (f ∷ fs) (o ∷ os) e =
    let p = both (fits f o) (is_handed seal_aes f o.carried) e in
    record {
      frame = f;
      sealed = Memᴰ.head refl;
      opening = o;
      opens = Memᴰ.head refl;
      delivers = delivers_by f o p.0;
      plain = plain_for f o.carried;
      handed = handed_by f o.carried p.1;
    }

pub is_delivered : (F now : ℕ) (ds : List Did) (b : Did) → is_delivered_of seal_aes F now ds b ≡ true → FrameCopy F ds now b
is_delivered F now [] b e = never e
is_delivered F now (d ∷ ds) b e = go (either (first_fits_of seal_aes d.given.sealed b.given.opened && leb now (d.clock + F)) (is_delivered_of seal_aes F now ds b) e) (is_delivered F now ds b)
  where
    go : (first_fits_of seal_aes d.given.sealed b.given.opened && leb now (d.clock + F) ≡ true) ⊎ (is_delivered_of seal_aes F now ds b ≡ true) → (is_delivered_of seal_aes F now ds b ≡ true → FrameCopy F ds now b)
        → FrameCopy F (d ∷ ds) now b
    go (inl h) later =
        let p = both (first_fits_of seal_aes d.given.sealed b.given.opened) (leb now (d.clock + F)) h in
        let q = first_of d.given.sealed b.given.opened p.0 in
        record {
          sealing = d;
          there = Memᴰ.head refl;
          frame = q.frame;
          sealed = q.sealed;
          opening = q.opening;
          opens = q.opens;
          delivers = q.delivers;
          plain = q.plain;
          handed = q.handed;
          in_time = leb-true now (d.clock + F) p.1;
        }
    go (inr h) later =
        let c = later h in
        record {
          sealing = c.sealing;
          there = Memᴰ.tail c.there;
          frame = c.frame;
          sealed = c.sealed;
          opening = c.opening;
          opens = c.opens;
          delivers = c.delivers;
          plain = c.plain;
          handed = c.handed;
          in_time = c.in_time;
        }
