-- Authorization keys by how many are active (`specs/Authorization.antt`).
use mathlib.Core.Path.{◌≡◌, refl, ◌∙◌, ap}
use mathlib.Core.Bool.{Bool, true, false, ◌&&◌, ◌||◌}
use mathlib.Core.List.{[]}
use Prim.Native.Nat.{ℕ, ◌+◌, ◌<◌, ◌≤◌}
use lib.Dec.{ltb}
use borrow.Author.Tests.{lt-ltb, le-ltb}
use Rattle.key_traffic.specs.Numbers.{same_ak_of, ak_after_of}
use Rattle.key_traffic.specs.declared.numbers.AkNumber.{AkNumber}
use Rattle.headend_state.specs.declared.state.AuthKeys.{AuthKeys}
use Rattle.headend_state.specs.Authorization.{AuthKey, keep_if, active_of, has_number, is_active_of, keys_for, newest_number, with_key}

or_nil : (s : Bool) → s ≡ (s || false)
or_nil true = refl
or_nil false = refl

-- of two keys, the active ones have a number
either_active : (a b : Bool) (x y : AuthKey) (n : AkNumber) → ((a && same_ak_of x.number n) || (b && same_ak_of y.number n)) ≡ has_number n (keep_if a x (keep_if b y []))
unfolding has_number
either_active true true x y n = ap (λ (t : Bool). same_ak_of x.number n || t) (or_nil (same_ak_of y.number n))
either_active true false x y n = refl
either_active false true x y n = or_nil (same_ak_of y.number n)
either_active false false x y n = refl

pub active_by : (clock : ℕ) (k : AuthKeys) (n : AkNumber) (first second : Bool) → first ≡ same_ak_of (ak_after_of k.next 14) n → second ≡ same_ak_of (newest_number k) n
    → ((ltb clock k.older && first) || (ltb clock k.newer && second)) ≡ is_active_of clock n k
unfolding is_active_of active_of
active_by clock k n first second e f =
    ap (λ (t : Bool). (ltb clock k.older && t) || (ltb clock k.newer && second)) e
    ∙ ap (λ (t : Bool). (ltb clock k.older && same_ak_of (ak_after_of k.next 14) n) || (ltb clock k.newer && t)) f
    ∙ either_active (ltb clock k.older) (ltb clock k.newer) (record { number = ak_after_of k.next 14; deadline = k.older }) (record { number = newest_number k; deadline = k.newer }) n

module _ (life clock : ℕ) (k : AuthKeys) where
  pub two_active : clock < k.older → clock < k.newer → k ≡ keys_for life clock k
  unfolding keys_for active_of
  two_active first second = simp (lt-ltb clock k.older first, lt-ltb clock k.newer second)

  pub one_active : k.older ≤ clock → clock < k.newer → with_key k (k.newer + life) ≡ keys_for life clock k
  unfolding keys_for active_of
  one_active past live = simp (le-ltb clock k.older past, lt-ltb clock k.newer live)

  pub none_active : k.older ≤ clock → k.newer ≤ clock → with_key k (clock + life) ≡ keys_for life clock k
  unfolding keys_for active_of
  none_active past over = simp (le-ltb clock k.older past, le-ltb clock k.newer over)
