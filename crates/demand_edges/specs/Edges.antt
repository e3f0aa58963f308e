-- The table of the edges that bear a P (document 01, "Edges"). For the rows on minting L = 1,800, so H = 900, and a SAID is listed at
-- second 0; the SAID, its suite, the octets k lent with the listing and m lent with the clock call are any (in the rows over the calls 64 octets, and one m
-- for all fifteen clock calls to generation 16).
use Rattle.std.specs.Prelude.{◌≡◌, ℕ, ◌≤◌, List, [], ◌∷◌, length, set, take, true}
use Rattle.questions.specs.Answer.{Done}
use Rattle.questions.specs.Refusal.{answer_number_of}
use Rattle.message_rules.specs.declared.fields.Params.{Params}
use Rattle.message_rules.specs.declared.fields.Receiver.TheVariants.{Modem as AtModem}
use Rattle.message_rules.specs.Reading.{no_place_of, read_of, reader_of}
use Rattle.message_rules.specs.Vectors.{reply_i6_of, fields_i6}
use Rattle.modem_tek.specs.declared.tek.Tek.{Tek}
use Rattle.modem_tek.specs.declared.tek.TekContext.{TekContext}
use Rattle.modem_transitions.specs.Identifier.{next_identifier_of}
use Rattle.modem_authorization.specs.declared.authorization.Authorization.{Authorization}
use Rattle.modem_authorization.specs.declared.authorization.AuthContext.{AuthContext}
use Rattle.modem_authorization.specs.Authorization.{auth_step_of}
use Rattle.modem_tek.specs.TekParts.{no_pair_of, nothing}
use Rattle.modem_tek.specs.Tek.{tek_stays, tek_step_of}
use Rattle.modem_transitions.specs.Transitions.{C, D, F, authorization_next_of}
use Rattle.key_association.specs.Roll.{rolled_of}
use Rattle.key_association.specs.Made.{SaidSuite, mints, key_of}
use Rattle.demand_edges.specs.Generations.{listed, line, generation, holding, clocked, seconds}
use Rattle.demand_edges.specs.Minting.{Start, Minting}
use Rattle.demand_edges.specs.Received.{Received}
use Rattle.demand_edges.specs.Numbered.{Numbered}
use Rattle.modem_steps.specs.declared.state.Modem.{Modem}
use Rattle.modem_limits.specs.Limits.{modem_fits_of}

pub record Edges : Type 0 where
  -- ---- minting, over the calls
  pub minting : (x : Start) (m : List ℕ) → length m ≡ 64 → Minting x m
  -- ---- what the modem receives, over the calls
  pub received : (m : Modem) (read write : List ℕ) (lent : ℕ) → modem_fits_of m ≡ true → length m.teks ≡ 4 → length read ≡ 20 → length write ≡ 20 → 216 ≤ lent
      → Received m read write lent
  -- ---- the Identifier after 255, over the clock call
  pub numbered : Numbered
  -- ---- I.6 through the reader by itself, and with Length 103 and with 107 octets
  pub reader_i6 : reader_of AtModem reply_i6_of ≡ record { answer = Done; fields = fields_i6; key = no_place_of; digest = record { start = 88; len = 20 } }
  pub reader_length_103 : answer_number_of (reader_of AtModem (set reply_i6_of 3 103)).answer ≡ 8
  pub reader_107_octets : answer_number_of (reader_of AtModem (take 107 reply_i6_of)).answer ≡ 6
  -- ---- minting, by the rule on one record and on the keys made
  -- clock 899: nothing
  pub clock_899 : (s : SaidSuite) (k m : List ℕ) → rolled_of 900 899 m 0 (listed s k) ≡ listed s k
  pub clock_899_mints : (s : SaidSuite) (k m : List ℕ) → mints 900 899 m 0 (line s k) ≡ []
  -- 900: generation 2, deadline 2,700
  pub clock_900 : (s : SaidSuite) (k m : List ℕ)
      → rolled_of 900 900 m 0 (listed s k) ≡ holding s (generation s 1 0 1800 k 32) (generation s 2 900 2700 m 0)
  pub clock_900_mints : (s : SaidSuite) (k m : List ℕ) → mints 900 900 m 0 (line s k) ≡ generation s 2 900 2700 m 0 ∷ []
  -- 0 to 1,799: generation 2, deadline 2,700
  pub clock_1799 : (s : SaidSuite) (k m : List ℕ)
      → rolled_of 900 1799 m 0 (listed s k) ≡ holding s (generation s 1 0 1800 k 32) (generation s 2 1799 2700 m 0)
  pub clock_1799_mints : (s : SaidSuite) (k m : List ℕ) → mints 900 1799 m 0 (line s k) ≡ generation s 2 1799 2700 m 0 ∷ []
  -- 0 to 1,800: generations 2 and 3, deadlines 2,700 and 3,600
  pub clock_1800 : (s : SaidSuite) (k m : List ℕ)
      → rolled_of 900 1800 m 0 (listed s k) ≡ holding s (generation s 2 1800 2700 m 0) (generation s 3 1800 3600 m 32)
  pub clock_1800_mints : (s : SaidSuite) (k m : List ℕ)
      → mints 900 1800 m 0 (line s k) ≡ generation s 2 1800 2700 m 0 ∷ generation s 3 1800 3600 m 32 ∷ []
  -- generation 16: number 0. Fifteen clock calls every H make it, and the key that a record shows of it has number 0
  pub sixteenth : (s : SaidSuite) (k m : List ℕ) → (clocked m seconds (line s k)).newer ≡ generation s 16 13500 15300 m 0
  pub sixteenth_record : (s : SaidSuite) (k m : List ℕ)
      → rolled_of 900 13500 m 0 (holding s (generation s 14 11700 13500 k 0) (generation s 15 12600 14400 k 32))
      ≡ holding s (generation s 15 12600 14400 k 32) (generation s 16 13500 15300 m 0)
  pub sixteenth_record_number : (s : SaidSuite) (k m : List ℕ)
      → (rolled_of 900 13500 m 0 (holding s (generation s 14 11700 13500 k 0) (generation s 15 12600 14400 k 32))).newer.number ≡ record { 0 = 0 }
  pub sixteenth_number : (s : SaidSuite) (k m : List ℕ) → (key_of (clocked m seconds (line s k)).newer).number ≡ record { 0 = 0 }
  -- C + Invalid: D, by the matrix and by the machine's step
  pub invalid_in_c : authorization_next_of 7 C ≡ D
  pub invalid_in_c_step : (a : Authorization) (x : AuthContext) → a.state ≡ C → (auth_step_of a 7 x).machine.state ≡ D
  -- Operational + Key Reply: unchanged, whatever the reply brings
  pub reply_in_d : (t : Tek) (x : TekContext) (older newer : Params) → t.state ≡ D → tek_step_of t 8 x older newer ≡ tek_stays t x
  -- F + TEK Invalid: C, keys gone; C is not B or E, so nothing is sent
  pub invalid_in_f : (t : Tek) (x : TekContext) (older newer : Params) → t.state ≡ F → (tek_step_of t 5 x older newer).machine.state ≡ C
  pub invalid_in_f_keys : (t : Tek) (x : TekContext) (older newer : Params) → t.state ≡ F → (tek_step_of t 5 x older newer).machine.pair ≡ no_pair_of
  pub invalid_in_f_sends : (t : Tek) (x : TekContext) (older newer : Params) → t.state ≡ F → (tek_step_of t 5 x older newer).sends ≡ nothing
  -- Identifier 255, then 1 (document 02, M-101): by the counter's rule, and in the Key Request and the Authorization Request that come after 255
  pub identifier_255 : next_identifier_of 255 ≡ 1
  pub identifier_255_key : (t : Tek) (x : TekContext) (older newer : Params) → t.state ≡ D → x.counter ≡ 255 → (tek_step_of t 7 x older newer).sends.identifier ≡ 1
  pub identifier_255_auth : (a : Authorization) (x : AuthContext) → a.state ≡ C → x.counter ≡ 255 → (auth_step_of a 6 x).requests.identifier ≡ 1
  -- the Key Reply of I.6: Identifier 115, authorization key 7, SAID 8,800, numbers 2 and 3, lives 43,200 and 86,400
  pub reply_i6 : read_of AtModem reply_i6_of ≡ record { answer = Done; fields = fields_i6; key = no_place_of; digest = record { start = 88; len = 20 } }
  -- with Length 103: 8
  pub reply_length_103 : answer_number_of (read_of AtModem (set reply_i6_of 3 103)).answer ≡ 8
  -- with 107 octets: 6
  pub reply_107_octets : answer_number_of (read_of AtModem (take 107 reply_i6_of)).answer ≡ 6
