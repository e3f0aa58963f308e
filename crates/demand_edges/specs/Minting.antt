-- The rows on minting as the calls give them (document 01, "Edges"): a fresh head-end with L = 1,800 lists a modem of one SAID at second 0, in any
-- lent records, and the clock is called with 64 octets of any material. All else about the settings, the address and the SAID is any.
use Rattle.std.specs.Prelude.{◌≡◌, true, List, [], ◌∷◌, ℕ, ◌≤◌, length, take, replicate}
use Rattle.questions.specs.declared.settings.Settings.{Settings}
use Rattle.questions.specs.Answer.{Answer, Done}
use Rattle.questions.specs.Settings.{settings_fit_of}
use Rattle.key_traffic.specs.Addresses.{said_fits_of, address_fits_of}
use Rattle.key_traffic.specs.Suites.{suite_known_of}
use Rattle.key_association.specs.declared.record.Assoc.{Assoc}
use Rattle.key_association.specs.declared.listing.Listing.{Listing}
use Rattle.key_association.specs.Made.{SaidSuite}
use Rattle.headend_state.specs.declared.state.HeadEnd.{HeadEnd}
use Rattle.headend_state.specs.declared.state.Called.{Called}
use Rattle.headend_calls.specs.Calls.{new_value, list_of, list_records_of, clock_of, clock_records_of}
use Rattle.demand_edges.specs.Generations.{generation, holding, seconds}

-- What the listing is made with
pub record Start : Type 0 where
  pub settings : Settings
  pub address : ℕ
  pub allowed : ℕ
  pub one : SaidSuite
  pub material : List ℕ
  pub records : List Assoc
  pub fits : settings_fit_of settings ≡ true
  pub life : settings.tek.life ≡ 1800
  pub address-fits : address_fits_of address ≡ true
  pub flag : allowed ≤ 1
  pub said_fits : said_fits_of one.said ≡ true
  pub suite-known : suite_known_of one.suite ≡ true
  pub enough : length material ≡ 64
  pub room : 1 ≤ length records

abbrev pub listing_of : SaidSuite → Listing
listing_of s = record { count = 1; saids = s.said ∷ 0 ∷ 0 ∷ 0 ∷ []; suites = s.suite ∷ 0 ∷ 0 ∷ 0 ∷ [] }

-- A head-end with its records, and the records in use
pub record Held : Type 0 where
  pub head : HeadEnd
  pub records : List Assoc

abbrev pub in_use_of : Held → List Assoc
in_use_of e = take e.head.used e.records

-- The listing, and the head-end with its records after it
abbrev pub listing : Start → Called
listing x = list_of (new_value x.settings).state x.records x.address x.allowed (listing_of x.one) x.material

abbrev pub after_listing : Start → Held
after_listing x =
    record {
      head = (listing x).state;
      records = list_records_of (new_value x.settings).state x.records x.address x.allowed (listing_of x.one) x.material;
    }

-- A clock call, and the head-end with its records after it
abbrev pub clock_to : List ℕ → ℕ → Held → Called
clock_to m t e = clock_of e.head e.records t m

abbrev pub after_clock : List ℕ → ℕ → Held → Held
after_clock m t e = record { head = (clock_to m t e).state; records = clock_records_of e.head e.records t m }

-- Clock calls at these seconds, each with the same octets: their answers, and what is held after them
abbrev pub answers : List ℕ → List ℕ → Held → List Answer
answers m [] e = []
answers m (t ∷ ts) e = (clock_to m t e).answer ∷ answers m ts (after_clock m t e)

abbrev pub after_clocks : List ℕ → List ℕ → Held → Held
after_clocks m [] e = e
after_clocks m (t ∷ ts) e = after_clocks m ts (after_clock m t e)

-- One clock call from the listing is done, and then the records in use are this one
pub record Clocked (x : Start) (m : List ℕ) (t : ℕ) (a : Assoc) : Type 0 where
  pub done : (clock_to m t (after_listing x)).answer ≡ Done
  pub holds : in_use_of (after_clock m t (after_listing x)) ≡ a ∷ []

pub record Minting (x : Start) (m : List ℕ) : Type 0 where
  -- the listing is done, and its record holds generations 0 and 1
  pub lists : (listing x).answer ≡ Done
  pub listed : in_use_of (after_listing x) ≡ holding x.one (generation x.one 0 0 900 x.material 0) (generation x.one 1 0 1800 x.material 32) ∷ []
  -- clock 899: nothing
  pub clock_899 : Clocked x m 899 (holding x.one (generation x.one 0 0 900 x.material 0) (generation x.one 1 0 1800 x.material 32))
  -- 900: generation 2, deadline 2,700
  pub clock_900 : Clocked x m 900 (holding x.one (generation x.one 1 0 1800 x.material 32) (generation x.one 2 900 2700 m 0))
  -- 0 to 1,799: generation 2, deadline 2,700
  pub clock_1799 : Clocked x m 1799 (holding x.one (generation x.one 1 0 1800 x.material 32) (generation x.one 2 1799 2700 m 0))
  -- 0 to 1,800: generations 2 and 3, deadlines 2,700 and 3,600
  pub clock_1800 : Clocked x m 1800 (holding x.one (generation x.one 2 1800 2700 m 0) (generation x.one 3 1800 3600 m 32))
  -- generation 16: number 0. Fifteen clock calls, every H, are all done, and the newer of the record then is generation 16
  pub sixteen_done : answers m seconds (after_listing x) ≡ replicate 15 Done
  pub sixteen : in_use_of (after_clocks m seconds (after_listing x)) ≡ holding x.one (generation x.one 15 12600 14400 m 0) (generation x.one 16 13500 15300 m 0) ∷ []
  pub sixteen_number : (holding x.one (generation x.one 15 12600 14400 m 0) (generation x.one 16 13500 15300 m 0)).newer.number ≡ record { 0 = 0 }
