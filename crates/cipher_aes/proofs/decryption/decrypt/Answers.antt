-- `decryption::decrypt` meets its contract: what is left of the rounds makes of x what all of them make of the State that came.
use Rattle.std.proofs.Common.{◌≡◌, ◌-◌, ap, ◌∙◌, ℕ, List, length, take, drop, arith, length-take, length-drop}
use Rattle.std.specs.Slice.Iter.{iter_rest}
use Rattle.std.specs.Iterator.Adapters.{rev_source}
use Rattle.cipher_aes.specs.Cipher.{eq_round_of, eq_rounds_of, inv_final_of, eq_inv_cipher}
use Rattle.cipher_aes.specs.Words.{state, key_at}
use Rattle.cipher_aes.specs.declared.words.State.{State}
use Rattle.cipher_aes.proofs.EquivalentLaws.{eq_step}
use Rattle.cipher_aes.proofs.ScheduleLaws.{last_key}
use Rattle.cipher_aes.proofs.decryption.decrypt.Goals as goal

pub loop-key-init : goal.loop-key-init
loop-key-init c =
    let left = iter_rest (rev_source c.into_iter-key-iterator.result) in
    let v = c.args.mixed.now in
    let all : left ≡ take 9 (drop 1 v) = cc in
    let n : length left ≡ 9 = ap length all ∙ omega (arith, length-take {A = State}, length-drop {A = State}) in
    record { few = omega arith; left = rw n all; same = rw n }

pub loop-key-preserved : goal.loop-key-preserved
loop-key-preserved c =
    let v = c.args.mixed.now in
    let t = iter_rest (rev_source c.loop-key.key-iterator) in
    let s = iter_rest (rev_source c.next.new.self) in
    let h = last_key v t s c.in-Some.key.now c.in-Some.ensures.steps c.loop-key.invariant.left in
    let m : length s ≡ length t - 1 = omega (arith, h.0) in
    record {
      few = omega (arith, h.0, c.loop-key.invariant.few);
      left = h.1;
      same = rw m
          (eq_step (key_at v) (length t) (state c.loop-key.x) _ (omega (arith, h.0))
          (c.inv_round-x.ensures ∙ ap (λ (k : List ℕ). eq_round_of k (state c.loop-key.x)) h.2) ∙ c.loop-key.invariant.same);
    }

pub returns : goal.returns
unfolding eq_inv_cipher eq_rounds_of key_at
returns c =
    let n : length (iter_rest (rev_source c.loop-key.key-iterator)) ≡ 0 = c.in-None.ensures.steps.0 in
    c.inv_final.ensures
    ∙ ap (inv_final_of (key_at c.args.keys.now 0))
    (rw n at c.loop-key.invariant.same ∙ ap (eq_rounds_of (key_at c.args.mixed.now) 9) c.add_round_key-x.ensures)
