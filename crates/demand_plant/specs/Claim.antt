-- The parts of demand 3 on frames: a delivered frame is opened with the key of its own sealing, or refused with 13 or 10; and where its octets are opened
-- here, they are given back (document 02, M-103).
use Rattle.std.specs.Prelude.{◌≡◌, true, ◌⊎◌, ℕ, ◌+◌, ◌≤◌, length}
use mathlib.Core.List.{List, [], ◌∷◌, ◌++◌, Memᴰ}
use Rattle.key_traffic.specs.Sealing.{KeyOut}
use Rattle.cipher_aes.specs.Field.{Octets}
use Rattle.frame_octets.specs.Framed.{seal_under_of}
use Rattle.demand_plant.specs.World.{World, Step, list, clock, established, reauth, up, down, seal_down, seal_up, open_up_of, open_down, seal_down_frame_of, seal_up_frame_of, open_up_frame_of, open_down_frame_of, Carried, key_given_of, octets_given, Frame, Opening}
use Rattle.demand_plant.specs.Run.{Did, did_of, after}

-- An opening, of either kind, delivers a frame to its receiver, the modem for every downstream frame: with exactly its direction, address, SAID and
-- number, into slices that are long enough
pub record Delivers (f : Frame) (o : Opening) : Type 0 where
  pub receiver : o.end ≡ f.direction
  pub direction : o.direction ≡ f.direction
  pub address : o.address ≡ f.address
  pub said : o.said ≡ f.said
  pub number : o.number ≡ f.number
  pub long : o.long ≡ true

-- Refused with 13 or 10, or opened with the very TEK and vector that the sealing gave, or sealed the octets with
abbrev pub Agree : Frame → Opening → Type 0
Agree f o = (o.result ≡ 13) ⊎ ((o.result ≡ 10) ⊎ ((o.result ≡ 0) × (o.out ≡ f.out)))

-- A step agrees with the trace before it: of each frame that an earlier step sealed, at most F seconds ago, and that it delivers
abbrev pub AgreesWith : ℕ → List Did → Did → Type 0
AgreesWith F earlier b =
    (a : Did) → Memᴰ a earlier → (f : Frame) → Memᴰ f a.given.sealed → (o : Opening) → Memᴰ o b.given.opened
    → Delivers f o → b.clock ≤ a.clock + F → Agree f o

-- Each step of a list does
abbrev pub Agrees : ℕ → List Did → World → List Step → Type 0
Agrees F earlier w [] = Unit {0}
Agrees F earlier w (s ∷ ss) = AgreesWith F earlier (did_of w s) × Agrees F (earlier ++ (did_of w s ∷ [])) (after w s) ss

-- ---- octets (document 02, M-103)

-- What a frame sealed here carries is what the cipher makes of its octets with the TEK and vector that stand beside them
abbrev pub SealedHere : KeyOut → Carried → Type 0
SealedHere k key_given_of = Unit {0}
SealedHere k (octets_given plain sealed) = sealed ≡ seal_under_of k plain

abbrev pub AllSealedHere : List Did → Type 0
AllSealedHere ds = (a : Did) → Memᴰ a ds → (f : Frame) → Memᴰ f a.given.sealed → SealedHere f.out f.carried

-- The octets c are those of a sealed frame that were p before. Sealed here: what the sealing was handed and gave. Sealed by a cipher block, with the TEK and
-- vector that the sealing gave: what the definition makes of p, a frame of 12 octets or more
abbrev pub CarriedAs : KeyOut → Carried → List ℕ → List ℕ → Type 0
CarriedAs k key_given_of p c = (12 ≤ length p) × (c ≡ seal_under_of k p)
CarriedAs k (octets_given plain sealed) p c = (p ≡ plain) × (c ≡ sealed)

-- An opening of octets is handed those; one that gives a key is handed none
abbrev pub Handed : Frame → List ℕ → Carried → Type 0
Handed f p key_given_of = Unit {0}
Handed f p (octets_given c given) = CarriedAs f.out f.carried p c

abbrev pub GivenBack : List ℕ → Carried → Type 0
GivenBack p key_given_of = Unit {0}
GivenBack p (octets_given c given) = given ≡ p

-- Refused with 13 or 10, or opened to the octets that were sealed, the clear 12 too
abbrev pub AgreeOctets : List ℕ → Opening → Type 0
AgreeOctets p o = (o.result ≡ 13) ⊎ ((o.result ≡ 10) ⊎ ((o.result ≡ 0) × GivenBack p o.carried))

abbrev pub AgreesOctetsWith : ℕ → List Did → Did → Type 0
AgreesOctetsWith F earlier b =
    (a : Did) → Memᴰ a earlier → (f : Frame) → Memᴰ f a.given.sealed → (o : Opening) → Memᴰ o b.given.opened
    → Delivers f o → b.clock ≤ a.clock + F → (p : List ℕ) → Octets p → Handed f p o.carried → AgreeOctets p o

abbrev pub AgreesOctets : ℕ → List Did → World → List Step → Type 0
AgreesOctets F earlier w [] = Unit {0}
AgreesOctets F earlier w (s ∷ ss) = AgreesOctetsWith F earlier (did_of w s) × AgreesOctets F (earlier ++ (did_of w s ∷ [])) (after w s) ss

-- The material of a step is octets, each below 256, as a slice of octets has them; of other steps nothing is asked
abbrev pub MaterialOctets : Step → Type 0
MaterialOctets (list address allowed l m) = Octets m
MaterialOctets (clock t m write lent) = Octets m
MaterialOctets (established lent) = Unit {0}
MaterialOctets (reauth lent) = Unit {0}
MaterialOctets (up address read write octets auth lent) = Unit {0}
MaterialOctets (down read write octets lent) = Unit {0}
MaterialOctets (seal_down address said tek vector) = Unit {0}
MaterialOctets (seal_up said tek vector) = Unit {0}
MaterialOctets (open_up_of direction address said number write tek vector lent) = Unit {0}
MaterialOctets (open_down direction address said number write tek vector lent) = Unit {0}
MaterialOctets (seal_down_frame_of address said frame lent) = Unit {0}
MaterialOctets (seal_up_frame_of said frame lent) = Unit {0}
MaterialOctets (open_up_frame_of direction address said number frame write lent invalid) = Unit {0}
MaterialOctets (open_down_frame_of direction address said number frame write lent messages) = Unit {0}

abbrev pub AllMaterialOctets : List Step → Type 0
AllMaterialOctets [] = Unit {0}
AllMaterialOctets (s ∷ ss) = MaterialOctets s × AllMaterialOctets ss
