-- Demand 3 in one place (document 01, "The steps of demand 3"): what is claimed of a list of steps, and which lists document 01 speaks of.
--
-- `Demand3` is claimed of every list that counts in the wide sense of `Counts` (specs/Run.antt): what reaches the modem is a copy of
-- what the head-end sent it, at most D seconds old, or is refused; of all other steps nothing is asked. `Listed` is document 01's own
-- reading, clause by clause; proofs/Demand3.antt proves the claim for the first and gives it for the second.
use Rattle.std.specs.Prelude.{◌≡◌, ◌⊎◌, Bool, true, false, ℕ, zero, suc, ◌+◌, ◌≤◌, length, take, drop}
use mathlib.Core.List.{List, [], ◌∷◌, ◌++◌, Memᴰ}
use Rattle.questions.specs.declared.settings.Settings.{Settings}
use Rattle.questions.specs.Settings.{half_of}
use Rattle.key_association.specs.declared.record.Assoc.{Assoc}
use Rattle.key_association.specs.Made.{keys_made}
use Rattle.message_rules.specs.Messages.{length_of}
use Rattle.modem_calls.specs.Calls as Mdm
use Rattle.modem_frames.specs.Frames as ModemFrames
use Rattle.modem_frames.specs.OctetFrames as ModemOctets
use Rattle.demand_plant.specs.World.{World, fresh, Step, list, clock, established, reauth, up, down, seal_down, seal_up, open_up_of, open_down, seal_down_frame_of, seal_up_frame_of, open_up_frame_of, open_down_frame_of, Frame, Opening, step_of, clock_answers_of}
use Rattle.demand_plant.specs.Run.{Did, did_of, after, world_after, trace_from, Copy}
use Rattle.demand_plant.specs.Claim.{Delivers, Agrees, Handed, AllSealedHere, AllMaterialOctets, AgreesOctets}
use Rattle.demand_plant.specs.KeysMade.{ShowsLast, SecondsGiven, accepted_by, struck}

-- ---- the claim about a list, run from the fresh pair
--
-- The parts work together. Part 1 rules out a frame that is opened with another key than its own, also one of the same number; by itself it would
-- let the head-end make a key for a resent request, as long as no frame meets the two. Part 2 rules out that a step other than a listing or a
-- clock call leads to other keys: with all others struck from the list, the same keys are made. What counts as a key made is the definition's own,
-- so by itself it says nothing of what the records hold, and would let an engine put keys there unseen. Part 3 rules that out: after every
-- prefix of the list the records in use hold the last two keys made of each SAID, and so never any other, not even for the time of one step.
-- Part 4 rules out that a key made depends on an end's state: the second that a listing's keys are made at is told by the list. Parts 5 and 6 are about
-- octets. Part 5 ties what is sealed here to the TEK and vector that part 1 speaks of: by itself part 1 would let an engine seal with one key and name
-- another. Part 6 rules out that octets are opened to others than were sealed, whichever of the two calls sealed them, a cipher block at the other end too.
pub record Demand3 (settings : Settings) (address said : ℕ) (records : List Assoc) (F : ℕ) (ss : List Step) : Type 0 where
  -- 1. each frame that is delivered at most F seconds after its sealing is opened with the very TEK and vector that the sealing gave, or sealed
  -- its octets with, or is refused with 13 or 10; sealed by a call of either kind, opened by one of either kind
  pub frames : Agrees F [] (fresh settings address said records) ss
  -- 2. the keys made by the list are those made by its listings and clock calls alone, each list with its own answers
  pub made : keys_made (half_of settings.tek) (accepted_by (fresh settings address said records) ss)
      ≡ keys_made (half_of settings.tek) (accepted_by (fresh settings address said records) (struck ss))
  -- 3. after every prefix of the list, the whole list among them, the records in use are those of the SAIDs listed, in order, and each record's
  -- older and newer are its SAID's last two keys made, in number, deadline, TEK and vector
  pub shown : (n : ℕ) → ShowsLast (half_of settings.tek) (accepted_by (fresh settings address said records) (take n ss))
      (world_after (fresh settings address said records) (take n ss)).head (world_after (fresh settings address said records) (take n ss)).records
  -- 4. each accepted listing's second is that of the last accepted clock call before it, and 0 where there is none
  pub seconds : SecondsGiven 0 (accepted_by (fresh settings address said records) ss)
  -- 5. the octets of each frame sealed here are what the cipher makes of those handed in, with the TEK and vector of part 1
  pub here : AllSealedHere (trace_from (fresh settings address said records) ss)
  -- 6. where the material is octets: each frame of octets that is delivered in its octets at most F seconds after its sealing, sealed here or by the definition
  -- with what the sealing gave, is opened to its own octets, or is refused with 13 or 10
  pub octets : AllMaterialOctets ss → AgreesOctets F [] (fresh settings address said records) ss

-- ---- document 01's lists

-- The messages in the octets that one call of the modem wrote, each apart: code, Identifier, Length, and Length octets
abbrev pub messages_with : ℕ → List ℕ → List (List ℕ)
messages_with zero octets = []
messages_with (suc n) [] = []
messages_with (suc n) (b ∷ bs) = take (4 + length_of (b ∷ bs)) (b ∷ bs) ∷ messages_with n (drop (4 + length_of (b ∷ bs)) (b ∷ bs))

abbrev pub messages_in : List ℕ → List (List ℕ)
messages_in octets = messages_with (length octets) octets

-- What the modem wrote in a step; a clock call that is refused for both writes nothing
abbrev pub clock_wrote_of : Bool → World → ℕ → List ℕ → ℕ → List ℕ
clock_wrote_of true w t write lent = (Mdm.clock_of w.modem t write lent).written
clock_wrote_of false w t write lent = []

abbrev pub modem_wrote_of : World → Step → List ℕ
modem_wrote_of w (list address allowed l m) = []
modem_wrote_of w (clock t m write lent) = clock_wrote_of (clock_answers_of w t m write lent) w t write lent
modem_wrote_of w (established lent) = (Mdm.established_of w.modem lent).written
modem_wrote_of w (reauth lent) = (Mdm.reauth_of w.modem lent).written
modem_wrote_of w (up address read write octets auth lent) = []
modem_wrote_of w (down read write octets lent) = (Mdm.receive_of w.modem octets read write lent).written
modem_wrote_of w (seal_down address said tek vector) = []
modem_wrote_of w (seal_up said tek vector) = []
modem_wrote_of w (open_up_of direction address said number write tek vector lent) = []
modem_wrote_of w (open_down direction address said number write tek vector lent) = (ModemFrames.open_of w.modem direction address said number write tek vector lent).sent
modem_wrote_of w (seal_down_frame_of address said frame lent) = []
modem_wrote_of w (seal_up_frame_of said frame lent) = []
modem_wrote_of w (open_up_frame_of direction address said number frame write lent invalid) = []
modem_wrote_of w (open_down_frame_of direction address said number frame write lent messages) =
    (ModemOctets.open_frame_value w.modem direction address said number frame write lent messages).opened.sent

-- A message that the modem sent, and the second
pub record Sent : Type 0 where
  pub octets : List ℕ
  pub clock : ℕ

abbrev pub sent_at_of : ℕ → List (List ℕ) → List Sent
sent_at_of now [] = []
sent_at_of now (o ∷ os) = record { octets = o; clock = now } ∷ sent_at_of now os

abbrev pub sent_by : World → Step → List Sent
sent_by w s = sent_at_of (after w s).head.clock (messages_in (modem_wrote_of w s))

-- A copy of one of them, at most D seconds old
pub record SentCopy (D : ℕ) (sent : List Sent) (now : ℕ) (octets : List ℕ) : Type 0 where
  pub one : Sent
  pub there : Memᴰ one sent
  pub same : octets ≡ one.octets
  pub in_time : now ≤ one.clock + D

-- A frame of an earlier sealing, at most F seconds old, that the step's opening delivers to its receiver, in its octets where it opens octets
pub record FrameCopy (F : ℕ) (earlier : List Did) (now : ℕ) (b : Did) : Type 0 where
  pub sealing : Did
  pub there : Memᴰ sealing earlier
  pub frame : Frame
  pub sealed : Memᴰ frame sealing.given.sealed
  pub opening : Opening
  pub opens : Memᴰ opening b.given.opened
  pub delivers : Delivers frame opening
  pub plain : List ℕ
  pub handed : Handed frame plain opening.carried
  pub in_time : now ≤ sealing.clock + F

-- any refused call
abbrev pub IsRefused : World → Step → Type 0
IsRefused w s = (step_of w s).given.number ≡ 0 → ⊥

-- Delivery to the head-end of a copy of what the modem sent, with any keys of 20 octets and slices long enough; or any message from another
-- modem's address. The copy carries the digest that it was sent with
abbrev pub UpListed : ℕ → List Sent → World → ℕ → List ℕ → List ℕ → List ℕ → List ℕ → ℕ → Type 0
UpListed D sent w address read write octets auth lent =
    ((address ≡ w.modem.address) × SentCopy D sent w.head.clock octets × (length read ≡ 20) × (length write ≡ 20) × (342 ≤ lent) × (1 ≤ length auth) × (length auth ≤ 256))
    ⊎ (address ≡ w.modem.address → ⊥)

-- Delivery to the modem of a copy of what the head-end sent it, with any keys of 20 octets, the slice long enough
abbrev pub DownListed : ℕ → List Did → World → List ℕ → List ℕ → List ℕ → ℕ → Type 0
DownListed D earlier w read write octets lent = Copy D earlier w.head.clock octets × (length read ≡ 20) × (length write ≡ 20) × (216 ≤ lent)

-- A step of such a list: listing others, the clock, established, reauth and sealing ask nothing
abbrev pub StepListed : ℕ → ℕ → List Sent → List Did → World → Step → Type 0
StepListed D F sent earlier w (list address allowed l m) = Unit {0}
StepListed D F sent earlier w (clock t m write lent) = Unit {0}
StepListed D F sent earlier w (established lent) = Unit {0}
StepListed D F sent earlier w (reauth lent) = Unit {0}
StepListed D F sent earlier w (up address read write octets auth lent) =
    UpListed D sent w address read write octets auth lent ⊎ IsRefused w (up address read write octets auth lent)
StepListed D F sent earlier w (down read write octets lent) = DownListed D earlier w read write octets lent ⊎ IsRefused w (down read write octets lent)
StepListed D F sent earlier w (seal_down address said tek vector) = Unit {0}
StepListed D F sent earlier w (seal_up said tek vector) = Unit {0}
StepListed D F sent earlier w (open_up_of direction address said number write tek vector lent) =
    FrameCopy F earlier w.head.clock (did_of w (open_up_of direction address said number write tek vector lent)) ⊎ IsRefused w (open_up_of direction address said number write tek vector lent)
StepListed D F sent earlier w (open_down direction address said number write tek vector lent) =
    FrameCopy F earlier w.head.clock (did_of w (open_down direction address said number write tek vector lent)) ⊎ IsRefused w (open_down direction address said number write tek vector lent)
StepListed D F sent earlier w (seal_down_frame_of address said frame lent) = Unit {0}
StepListed D F sent earlier w (seal_up_frame_of said frame lent) = Unit {0}
StepListed D F sent earlier w (open_up_frame_of direction address said number frame write lent invalid) =
    FrameCopy F earlier w.head.clock (did_of w (open_up_frame_of direction address said number frame write lent invalid)) ⊎ IsRefused w (open_up_frame_of direction address said number frame write lent invalid)
StepListed D F sent earlier w (open_down_frame_of direction address said number frame write lent messages) =
    FrameCopy F earlier w.head.clock (did_of w (open_down_frame_of direction address said number frame write lent messages)) ⊎ IsRefused w (open_down_frame_of direction address said number frame write lent messages)

abbrev pub AllStepsListed : ℕ → ℕ → List Sent → List Did → World → List Step → Type 0
AllStepsListed D F sent earlier w [] = Unit {0}
AllStepsListed D F sent earlier w (s ∷ ss) =
    StepListed D F sent earlier w s × AllStepsListed D F (sent ++ sent_by w s) (earlier ++ (did_of w s ∷ [])) (after w s) ss

-- The first step lists the modem, as allowed, and is accepted
abbrev pub ListsFirst : World → List Step → Type 0
ListsFirst w [] = ⊥
ListsFirst w (list address allowed l m ∷ ss) = (address ≡ w.modem.address) × (allowed ≡ 1) × ((step_of w (list address allowed l m)).given.number ≡ 0)
ListsFirst w (clock t m write lent ∷ ss) = ⊥
ListsFirst w (established lent ∷ ss) = ⊥
ListsFirst w (reauth lent ∷ ss) = ⊥
ListsFirst w (up address read write octets auth lent ∷ ss) = ⊥
ListsFirst w (down read write octets lent ∷ ss) = ⊥
ListsFirst w (seal_down address said tek vector ∷ ss) = ⊥
ListsFirst w (seal_up said tek vector ∷ ss) = ⊥
ListsFirst w (open_up_of direction address said number write tek vector lent ∷ ss) = ⊥
ListsFirst w (open_down direction address said number write tek vector lent ∷ ss) = ⊥
ListsFirst w (seal_down_frame_of address said frame lent ∷ ss) = ⊥
ListsFirst w (seal_up_frame_of said frame lent ∷ ss) = ⊥
ListsFirst w (open_up_frame_of direction address said number frame write lent invalid ∷ ss) = ⊥
ListsFirst w (open_down_frame_of direction address said number frame write lent messages ∷ ss) = ⊥

pub record Listed (D F : ℕ) (w : World) (ss : List Step) : Type 0 where
  pub first : ListsFirst w ss
  pub steps : AllStepsListed D F [] [] w ss
