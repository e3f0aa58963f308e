-- The machine that sealing and opening ask: what the parts of the code say of the definitions.
use mathlib.Core.Path.{◌≡◌, refl, ap}
use mathlib.Core.Bool.{Bool, true, false, ◌&&◌, cond}
use mathlib.Core.List.{List}
use Prim.Native.Nat.{ℕ}
use lib.Dec.{leb, ltb, eqb}
use Rattle.key_traffic.specs.declared.numbers.TekNumber.{TekNumber}
use Rattle.questions.specs.Answer.{Answer, Done, Refused}
use Rattle.questions.specs.declared.refusal.Refusal.{Refusal}
use Rattle.questions.specs.declared.refusal.Refusal.TheVariants.{OutOfLimits, WrongLength, UnknownSaid, NoKeyForFrame, NoKeyToSeal}
use Rattle.key_traffic.specs.Numbers.{tek_in_range_of}
use Rattle.modem_tek.specs.declared.tek.Tek.{Tek}
use Rattle.modem_steps.specs.declared.state.Modem.{Modem}
use Rattle.modem_steps.specs.State.{no_tek_of}
use Rattle.modem_receive.specs.Receive.{is_known_of}
use Rattle.modem_limits.specs.Limits.{modem_fits_of}
use Rattle.message_digest.specs.Digest.{message_key_fits_of}
use Rattle.modem_frames.specs.FrameRules.{pair_seals, pair_opens}
use Rattle.modem_frames.specs.Frames.{machine_of, seal_answer_of, open_answer_of, seal_asked_of, open_asked_of}
use Rattle.modem_frames.specs.FrameCalled.{known_machine}

-- ---- the machine of a SAID
pub machine_known : (m : Modem) (said : ℕ) → is_known_of m said ≡ true → known_machine m said ≡ machine_of m said
unfolding known_machine
machine_known m said e = simp e

-- ---- the answers do not depend on the machine of a SAID that is not known
after_known : (b : Bool) (f : Tek → Bool) (t u : Tek) (q r : Refusal)
    → cond b (cond (f (cond b t u)) Done (Refused q)) (Refused r) ≡ cond b (cond (f t) Done (Refused q)) (Refused r)
after_known true f t u q r = refl
after_known false f t u q r = refl

after_here : (a b : Bool) (f : Tek → Bool) (t u : Tek) (q r : Refusal)
    → cond (a && b) (cond (f (cond b t u)) Done (Refused q)) (Refused r) ≡ cond (a && b) (cond (f t) Done (Refused q)) (Refused r)
after_here true b f t u q r = after_known b f t u q r
after_here false b f t u q r = refl

pub seal_asked : (m : Modem) (said tek vector : ℕ) → seal_asked_of m said (known_machine m said) tek vector ≡ seal_answer_of m said tek vector
unfolding seal_asked_of seal_answer_of known_machine
seal_asked m said tek vector =
    ap (λ (a : Answer). cond (modem_fits_of m && leb said 16383) (cond (leb 16 tek && leb 16 vector) a (Refused WrongLength)) (Refused OutOfLimits))
    (after_known (is_known_of m said) (λ t. pair_seals m.clock t.pair) (machine_of m said) no_tek_of NoKeyToSeal UnknownSaid)

pub open_asked : (m : Modem) (direction address said : ℕ) (number : TekNumber) (write : List ℕ) (tek vector lent : ℕ)
    → open_asked_of m direction address said number (known_machine m said) (message_key_fits_of write) tek vector lent
    ≡ open_answer_of m direction address said number write tek vector lent
unfolding open_asked_of open_answer_of known_machine
open_asked m direction address said number write tek vector lent =
    ap (λ (a : Answer). cond (modem_fits_of m && eqb direction 1 && ltb address 281474976710656 && leb said 16383 && tek_in_range_of number)
    (cond (message_key_fits_of write && leb 16 tek && leb 16 vector && leb 216 lent) a (Refused WrongLength)) (Refused OutOfLimits))
    (after_here (eqb address m.address) (is_known_of m said) (λ t. pair_opens m.clock number t.pair) (machine_of m said) no_tek_of NoKeyForFrame UnknownSaid)
