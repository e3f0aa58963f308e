-- `put_text` meets its contract.
use Rattle.std.proofs.Common.{refl, ap, ◌∙◌, sym, ℕ, List, ◌++◌, ◌+◌, ◌-◌, length, take, drop, arith}
use Rattle.std.proofs.Math.Seq.{take-length}
use Rattle.std.proofs.lemmas.Slice.{put_mid-paste}
use Rattle.std.proofs.lemmas.List.Edits.{sets-eq}
use Rattle.text.proofs.put.put_text.Goals as goal

pub returns : goal.returns
returns c =
    let d = c.args.out.now in
    let at = c.args.at in
    let v = c.args.text.now in
    let copied = c.copy_from_slice.new.self in
    record {
      after = refl;
      stored =
          put_mid-paste at (at + length v - at) d copied v (length v) c.copy_from_slice.ensures.after (omega arith) refl
          ∙ ap (λ (l : List ℕ). take at d ++ l ++ drop (at + length v) d) (take-length v)
          ∙ sym (sets-eq v d at (omega arith));
    }
