-- `decryption::decrypt` meets its contract: what is left of the rounds makes of x what all of them make of the State that came.
use Rattle.std.proofs.Common.{◌≡◌, ◌≤◌, length, take, drop}
use Rattle.std.specs.Slice.Iter.{iter_rest}
use Rattle.std.specs.Iterator.Adapters.{rev_source}
use Rattle.cipher_aes.specs.Cipher.{eq_rounds_of}
use Rattle.cipher_aes.specs.Words.{state, key_at}
use Rattle.cipher_aes.proofs.decryption.decrypt.Given as goal

abbrev pub invariant-loop-key : goal.invariant-loop-key
invariant-loop-key l = record {
  few : length (iter_rest (rev_source l.key-iterator)) ≤ 9;
  left : iter_rest (rev_source l.key-iterator) ≡ take (length (iter_rest (rev_source l.key-iterator))) (drop 1 l.mixed);
  same : eq_rounds_of (key_at l.mixed) (length (iter_rest (rev_source l.key-iterator))) (state l.x) ≡ eq_rounds_of (key_at l.mixed) 9 (state l.initial.x);
}
