-- Authorization keys at the head-end (document 01, "Head-end answers": Authorization Request).
use Rattle.std.specs.Prelude.{Bool, true, false, ◌||◌, List, [], ◌∷◌, ℕ, ◌+◌, ◌-◌, ◌*◌, ◌≤◌, ltb}
use Rattle.key_traffic.specs.Numbers.{same_ak_of, ak_after_of}
use Rattle.key_traffic.specs.declared.numbers.AkNumber.{AkNumber}
use Rattle.headend_state.specs.declared.state.AuthKeys.{AuthKeys}

pub record AuthKey : Type 0 where
  pub number : AkNumber
  pub deadline : ℕ

-- The newest has the number before the next one's: 15 more is 1 less, mod 16
abbrev pub newest_number : AuthKeys → AkNumber
newest_number k = ak_after_of k.next 15

-- The last two made, in order; a deadline of 0 stands for none
abbrev pub last_two : AuthKeys → List AuthKey
last_two k =
    record { number = ak_after_of k.next 14; deadline = k.older }
    ∷ record { number = newest_number k; deadline = k.newer }
    ∷ []

-- A key is active while its deadline is after the clock
abbrev pub keep_if : Bool → AuthKey → List AuthKey → List AuthKey
keep_if true k ks = k ∷ ks
keep_if false k ks = ks

unfoldable pub active_of : ℕ → List AuthKey → List AuthKey
active_of clock [] = []
active_of clock (k ∷ ks) = keep_if (ltb clock k.deadline) k (active_of clock ks)

abbrev pub active_keys : ℕ → AuthKeys → List AuthKey
active_keys clock k = active_of clock (last_two k)

unfoldable pub has_number : AkNumber → List AuthKey → Bool
has_number n [] = false
has_number n (k ∷ ks) = same_ak_of k.number n || has_number n ks

-- Whether a key of that number is active
unfoldable pub is_active_of : ℕ → AkNumber → AuthKeys → Bool
is_active_of clock n k = has_number n (active_keys clock k)

-- One more key gets the next number; the one before the last is forgotten
abbrev pub with_key : AuthKeys → ℕ → AuthKeys
with_key k deadline = record { next = ak_after_of k.next 1; older = k.newer; newer = deadline }

-- None active: one is made, with a deadline A after the clock. One: a second, A after the first's. Two: none
abbrev pub keys_by_of : List AuthKey → ℕ → ℕ → AuthKeys → AuthKeys
keys_by_of [] life clock k = with_key k (clock + life)
keys_by_of (first ∷ []) life clock k = with_key k (first.deadline + life)
keys_by_of (first ∷ second ∷ more) life clock k = k

unfoldable pub keys_for : ℕ → ℕ → AuthKeys → AuthKeys
keys_for life clock k = keys_by_of (active_keys clock k) life clock k

-- The life that a message carries: from the clock to the deadline
abbrev pub life_left : ℕ → ℕ → ℕ
life_left clock deadline = deadline - clock

-- What making a key asks so that no sum wraps; `LimitsLaws` shows that an entry within the limits has it
pub record Countable (life clock : ℕ) (k : AuthKeys) : Type 0 where
  pub life_small : life ≤ 6048000
  pub clock_small : clock ≤ 1000000000000
  pub ordered : k.older ≤ k.newer
  pub near : k.newer ≤ clock + 2 * life
