-- The second of an accepted listing is that of the last accepted clock call before it, or 0: so the keys made take nothing from an end's state.
use mathlib.Core.Path.{◌≡◌, refl, subst}
use mathlib.Core.Bool.{Bool, true, false}
use mathlib.Core.List.{List, [], ◌∷◌, ◌++◌}
use Prim.Native.Nat.{ℕ}
use Rattle.questions.specs.Answer.{Answer, Done, Refused}
use Rattle.questions.specs.declared.settings.Settings.{Settings}
use Rattle.key_association.specs.declared.record.Assoc.{Assoc}
use Rattle.key_association.specs.declared.listing.Listing.{Listing}
use Rattle.key_association.specs.Made.{Accepted}
use Rattle.headend_calls.specs.Calls as Head
use Rattle.headend_calls.specs.Minting.{accepted_list}
use Rattle.headend_calls.proofs.StateLaws.{receive_base}
use Rattle.headend_calls.proofs.FrameAnswers.{open_same, open_frame_same}
use Rattle.demand_plant.specs.World.{World, fresh, Step, list, clock, established, reauth, up, down, seal_down, seal_up, open_up_of, open_down, seal_down_frame_of, seal_up_frame_of, open_up_frame_of, open_down_frame_of, clocked_by, clock_answers_of}
use Rattle.demand_plant.specs.Run.{after}
use Rattle.demand_plant.specs.KeysMade.{accepted_if, clock_if, accepted_in, accepted_by, SecondsGiven}
use Rattle.demand_plant.proofs.HeadKept.{list_clock, clock_second}

module _ (w : World) (rest : List Accepted) where
  abbrev TellsAt : ℕ → Type 0
  TellsAt now = SecondsGiven now rest

  listed : (l : Listing) (m : List ℕ) (a : Answer) → TellsAt w.head.clock → SecondsGiven w.head.clock (accepted_if a (accepted_list w.head l m) ++ rest)
  listed l m Done told = (refl, told)
  listed l m (Refused r) told = told

  clocked : (t : ℕ) (m write : List ℕ) (lent : ℕ) (b : Bool) → clock_answers_of w t m write lent ≡ b → TellsAt (clocked_by b w t m write lent).head.clock → SecondsGiven w.head.clock (clock_if b t m ++ rest)
  clocked t m write lent true e told = subst TellsAt (clock_second w t m write lent e) told
  clocked t m write lent false e told = told

  -- a step tells a listing's second rightly, and leaves the clock as it tells
  step_listed : (s : Step) → TellsAt (after w s).head.clock → SecondsGiven w.head.clock (accepted_in w s ++ rest)
  step_listed (list address allowed l m) told = listed l m (Head.list_of w.head w.records address allowed l m).answer (subst TellsAt (list_clock w address allowed l m) told)
  step_listed (clock t m write lent) told = clocked t m write lent (clock_answers_of w t m write lent) refl told
  step_listed (established lent) told = told
  step_listed (reauth lent) told = told
  step_listed (up address read write octets auth lent) told = subst TellsAt (receive_base w.head w.records address read write octets auth lent).clock told
  step_listed (down read write octets lent) told = told
  step_listed (seal_down address said tek vector) told = told
  step_listed (seal_up said tek vector) told = told
  step_listed (open_up_of direction address said number write tek vector lent) told = subst TellsAt (open_same w.head w.records direction address said number write tek vector lent).clock told
  step_listed (open_down direction address said number write tek vector lent) told = told
  step_listed (seal_down_frame_of address said frame lent) told = told
  step_listed (seal_up_frame_of said frame lent) told = told
  step_listed (open_up_frame_of direction address said number frame write lent invalid) told = subst TellsAt (open_frame_same w.head w.records direction address said number frame write lent invalid).clock told
  step_listed (open_down_frame_of direction address said number frame write lent messages) told = told

-- from any world, and so from the fresh pair
seconds_from : (ss : List Step) (w : World) → SecondsGiven w.head.clock (accepted_by w ss)
seconds_from [] w = tt
seconds_from (s ∷ ss) w = step_listed w (accepted_by (after w s) ss) s (seconds_from ss (after w s))

pub seconds_given : (settings : Settings) (address said : ℕ) (records : List Assoc) (ss : List Step) → SecondsGiven 0 (accepted_by (fresh settings address said records) ss)
seconds_given settings address said records ss = seconds_from ss (fresh settings address said records)
