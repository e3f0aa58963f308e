-- Question 1 of the modem's state (document 01, question 1; docs/DECISIONS.md, "Limits of the modem's state").
use Rattle.std.specs.Prelude.{ℕ, ◌+◌, Bool, false, cond, ◌&&◌, ◌||◌, not, List, [], ◌∷◌, eqb, leb, ltb, take}
use Rattle.key_traffic.specs.Numbers.{ak_in_range_of}
use Rattle.key_traffic.specs.Addresses.{said_fits_of, address_fits_of}
use Rattle.questions.specs.Settings.{settings_fit_of}
use Rattle.key_traffic.specs.Suites.{suite_known_of, width_of}
use Rattle.key_traffic.specs.Octets.{all_zero}
use Rattle.key_traffic.specs.Traffic.{pair_fits_of}
use Rattle.questions.specs.declared.settings.Waits.{Waits}
use Rattle.key_traffic.specs.declared.traffic.TrafficKey.{TrafficKey}
use Rattle.message_rules.specs.Messages.{different}
use Rattle.modem_authorization.specs.declared.authorization.Authorization.{Authorization}
use Rattle.modem_tek.specs.declared.parts.Pair.{Pair}
use Rattle.modem_tek.specs.declared.tek.Tek.{Tek}
use Rattle.modem_transitions.specs.declared.timer.Timer.{Timer}
use Rattle.modem_transitions.specs.Transitions.{A, B, D, E, F}
use Rattle.modem_steps.specs.declared.state.Modem.{Modem}
use Rattle.modem_steps.specs.State.{slot_at}

-- A timer that has to be on is on, at most so many seconds ahead of the clock; one that has not is off and zero
unfoldable pub timer_fits_of : Bool → ℕ → ℕ → Timer → Bool
timer_fits_of must clock ahead t = cond must (eqb t.on 1 && leb t.at (clock + ahead)) (eqb t.on 0 && eqb t.at 0)

-- On in B, C, D and E, off in A and F, at most 12,096,000 s ahead; the key's number is 0 to 15
unfoldable pub authorization_fits_of : ℕ → Authorization → Bool
authorization_fits_of clock a =
    leb a.state 5
    && ak_in_range_of a.ak
    && timer_fits_of (not (eqb a.state A || eqb a.state F)) clock 12096000 a.timer

unfoldable pub key_zero_of : TrafficKey → Bool
key_zero_of k = eqb k.number.0 0 && eqb k.deadline 0 && all_zero k.tek && all_zero k.vector

-- Keys are held in D, E and F and in no other state; a pair that is not held is all zero
unfoldable pub pair_held_fits_of : Bool → ℕ → ℕ → Pair → Bool
pair_held_fits_of must w clock p =
    cond must (eqb p.held 1 && pair_fits_of w clock p.older p.newer) (eqb p.held 0 && key_zero_of p.older && key_zero_of p.newer)

-- How far ahead a timer may be: the wait in B and E, the longest TEK life in D
unfoldable pub longest_wait_of : Waits → ℕ → ℕ
longest_wait_of w state = cond (eqb state B) w.operational (cond (eqb state E) w.rekey 604800)

-- A slot in use
unfoldable pub tek_fits_of : Waits → ℕ → Tek → Bool
tek_fits_of w clock t =
    said_fits_of t.said
    && suite_known_of t.suite
    && leb t.state 5
    && timer_fits_of (eqb t.state B || eqb t.state D || eqb t.state E) clock (longest_wait_of w t.state) t.timer
    && pair_held_fits_of (leb D t.state) (width_of t.suite) clock t.pair

-- A slot not in use
unfoldable pub tek_zero_of : Tek → Bool
tek_zero_of t =
    eqb t.said 0
    && eqb t.suite 0
    && eqb t.state 0
    && eqb t.identifier 0
    && timer_fits_of false 0 0 t.timer
    && pair_held_fits_of false 0 0 t.pair

unfoldable pub slot_fits_of : Modem → ℕ → Bool
slot_fits_of m i = cond (ltb i m.used) (tek_fits_of m.settings.waits m.clock (slot_at m i)) (tek_zero_of (slot_at m i))

unfoldable pub saids_of_teks : List Tek → List ℕ
saids_of_teks [] = []
saids_of_teks (t ∷ ts) = t.said ∷ saids_of_teks ts

unfoldable pub modem_fits_of : Modem → Bool
modem_fits_of m =
    settings_fit_of m.settings
    && leb m.clock 1000000000000
    && address_fits_of m.address
    && said_fits_of m.said
    && authorization_fits_of m.clock m.authorization
    && leb m.used 4
    && slot_fits_of m 0
    && slot_fits_of m 1
    && slot_fits_of m 2
    && slot_fits_of m 3
    && different (saids_of_teks (take m.used m.teks))
