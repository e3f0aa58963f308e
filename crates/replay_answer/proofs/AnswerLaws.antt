-- Laws of what is written: a number and the octet after it, and the parts of an answer.
use mathlib.Core.Path.{◌≡◌, sym, ap}
use mathlib.Core.Bool.{Bool, true, false}
use mathlib.Core.List.{List}
use Prim.Native.Nat.{ℕ, ◌+◌, ◌≤◌}
use native.Mathlib.Omega.{arith}
use lib.ListN.{length}
use lib.Seq.{sets}
use Rattle.key_traffic.specs.Put.{Put}
use Rattle.key_traffic.specs.Octets.{overlay}
use Rattle.key_traffic.proofs.StoreLaws.{put_as, put_none, put_whole}
use Rattle.replay_read.specs.declared.calls.Kind.{Kind}
use Rattle.text.specs.Decimal.{decimal_of}
use Rattle.replay_answer.specs.Answer.{text_if, rest_text}

pub decimal_put : (d : List ℕ) (at n r : ℕ) (e : List ℕ) → e ≡ sets d at (decimal_of n) → r ≡ at + length (decimal_of n) → Put d at (decimal_of n) r e
decimal_put d at n r e p q = record { after = q; stored = p }

-- ---- a text, or nothing

pub if_off : (d : List ℕ) (at : ℕ) (vs : List ℕ) (t : Bool) → t ≡ false → Put d at (text_if t vs) at d
if_off d at vs t e = put_as (ap (λ (u : Bool). text_if u vs) (sym e)) (put_none d at)

pub if_on : {d : List ℕ} {at : ℕ} {vs : List ℕ} {n : ℕ} {e : List ℕ} (t : Bool) → t ≡ true → Put d at vs n e → Put d at (text_if t vs) n e
if_on {vs = vs} t q p = put_as (ap (λ (u : Bool). text_if u vs) (sym q)) p

-- ---- by its kind

pub rest_as : {d : List ℕ} {at n : ℕ} {e : List ℕ} (k j : Kind) (number key : ℕ) (tek vector frame sent : List ℕ) → k ≡ j
    → Put d at (rest_text j number key tek vector frame sent) n e → Put d at (rest_text k number key tek vector frame sent) n e
rest_as k j number key tek vector frame sent q p = put_as (ap (λ (i : Kind). rest_text i number key tek vector frame sent) (sym q)) p

-- ---- a whole line

pub line_put : {d vs : List ℕ} {n : ℕ} {e : List ℕ} → Put d 0 vs n e → n ≤ length d → (e ≡ overlay d vs) × (n ≡ length vs)
line_put {d} {vs} {n} {e} p h = (put_whole p (omega (arith, p.after)), omega (arith, p.after))
