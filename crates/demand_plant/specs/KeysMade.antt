-- The keys made by a list of steps (document 01, "The steps of demand 3"): worked out by the minting rules from the accepted listings and clock
-- calls with their lent material alone, from no record and no end's state but for which calls were accepted. A listing's second is read off the
-- head-end's clock; it is that of the last accepted clock call before it, or 0 (`SecondsGiven` below, a part of the claim).
use Rattle.std.specs.Prelude.{◌≡◌, Bool, true, false, List, [], ◌∷◌, ◌++◌, map, ℕ, ◌<◌, eqb, get_or, take}
use Rattle.questions.specs.Answer.{Answer, Done, Refused}
use Rattle.key_association.specs.declared.record.Assoc.{Assoc}
use Rattle.key_association.specs.Made.{Made, SaidSuite, Accepted, key_of, keys_made}
use Rattle.key_association.specs.Made.{listing as madeByListing, clock as madeByClock}
use Rattle.key_records.specs.Records.{none}
use Rattle.headend_state.specs.declared.state.HeadEnd.{HeadEnd}
use Rattle.headend_calls.specs.Calls as Head
use Rattle.headend_calls.specs.Minting.{accepted_list, accepted_clock}
use Rattle.demand_plant.specs.World.{World, Step, list, clock, established, reauth, up, down, seal_down, seal_up, open_up_of, open_down, seal_down_frame_of, seal_up_frame_of, open_up_frame_of, open_down_frame_of, clock_answers_of}
use Rattle.demand_plant.specs.Run.{after}

-- ---- the accepted listings and clock calls of a list, in order; a clock call is accepted where both ends accept it
abbrev pub accepted_if : Answer → Accepted → List Accepted
accepted_if Done c = c ∷ []
accepted_if (Refused r) c = []

abbrev pub clock_if : Bool → ℕ → List ℕ → List Accepted
clock_if true t m = accepted_clock t m ∷ []
clock_if false t m = []

abbrev pub accepted_in : World → Step → List Accepted
accepted_in w (list address allowed l m) = accepted_if (Head.list_of w.head w.records address allowed l m).answer (accepted_list w.head l m)
accepted_in w (clock t m write lent) = clock_if (clock_answers_of w t m write lent) t m
accepted_in w (established lent) = []
accepted_in w (reauth lent) = []
accepted_in w (up address read write octets auth lent) = []
accepted_in w (down read write octets lent) = []
accepted_in w (seal_down address said tek vector) = []
accepted_in w (seal_up said tek vector) = []
accepted_in w (open_up_of direction address said number write tek vector lent) = []
accepted_in w (open_down direction address said number write tek vector lent) = []
accepted_in w (seal_down_frame_of address said frame lent) = []
accepted_in w (seal_up_frame_of said frame lent) = []
accepted_in w (open_up_frame_of direction address said number frame write lent invalid) = []
accepted_in w (open_down_frame_of direction address said number frame write lent messages) = []

abbrev pub accepted_by : World → List Step → List Accepted
accepted_by w [] = []
accepted_by w (s ∷ ss) = accepted_in w s ++ accepted_by (after w s) ss

-- Each listing's second is that of the last clock call before it, and `now` where there is none
abbrev pub SecondsGiven : ℕ → List Accepted → Type 0
SecondsGiven now [] = Unit {0}
SecondsGiven now (madeByListing t ss m ∷ cs) = (t ≡ now) × SecondsGiven now cs
SecondsGiven now (madeByClock t m ∷ cs) = SecondsGiven t cs

-- ---- all but the listings and clock calls struck out
abbrev pub kept_step : Step → List Step
kept_step (list address allowed l m) = list address allowed l m ∷ []
kept_step (clock t m write lent) = clock t m write lent ∷ []
kept_step (established lent) = []
kept_step (reauth lent) = []
kept_step (up address read write octets auth lent) = []
kept_step (down read write octets lent) = []
kept_step (seal_down address said tek vector) = []
kept_step (seal_up said tek vector) = []
kept_step (open_up_of direction address said number write tek vector lent) = []
kept_step (open_down direction address said number write tek vector lent) = []
kept_step (seal_down_frame_of address said frame lent) = []
kept_step (seal_up_frame_of said frame lent) = []
kept_step (open_up_frame_of direction address said number frame write lent invalid) = []
kept_step (open_down_frame_of direction address said number frame write lent messages) = []

abbrev pub struck : List Step → List Step
struck [] = []
struck (s ∷ ss) = kept_step s ++ struck ss

-- ---- what the records show of the keys made

-- Those of one SAID, in order
abbrev pub keep_if : Bool → Made → List Made → List Made
keep_if true k ks = k ∷ ks
keep_if false k ks = ks

abbrev pub of_said_of : ℕ → List Made → List Made
of_said_of said [] = []
of_said_of said (k ∷ ks) = keep_if (eqb k.said said) k (of_said_of said ks)

-- The SAIDs of the accepted listings, in order
abbrev pub saids_of : Accepted → List ℕ
saids_of (madeByListing t ss m) = map (λ (s : SaidSuite). s.said) ss
saids_of (madeByClock t m) = []

abbrev pub saids_listed_of : List Accepted → List ℕ
saids_listed_of [] = []
saids_listed_of (c ∷ cs) = saids_of c ++ saids_listed_of cs

-- A record's older and newer agree with its SAID's last two there in number, deadline, TEK and vector
pub record LastTwo (ms : List Made) (a : Assoc) : Type 0 where
  pub before : List Made
  pub older : Made
  pub newer : Made
  pub are : of_said_of a.said ms ≡ before ++ (older ∷ newer ∷ [])
  pub older_is : a.older ≡ key_of older
  pub newer_is : a.newer ≡ key_of newer

-- The records in use are those of the SAIDs listed, in order, each with its last two
pub record ShowsLast (half : ℕ) (cs : List Accepted) (h : HeadEnd) (xs : List Assoc) : Type 0 where
  pub saids : map (λ (a : Assoc). a.said) (take h.used xs) ≡ saids_listed_of cs
  pub last : (i : ℕ) → i < h.used → LastTwo (keys_made half cs) (get_or xs i none)
