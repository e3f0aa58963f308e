-- `start_refused` meets its contract.
use Prim.Native.Nat.{ℕ}
use mathlib.Core.Path.{refl, ap, ◌∙◌}
use mathlib.Core.List.{[], ◌∷◌}
use native.Mathlib.Omega.{arith}
use Rattle.questions.specs.Settings.{life_fits_of}
use Rattle.schedule_table.specs.declared.print.Cursor.{Cursor}
use Rattle.schedule_table.specs.Schedule.{asked_fits_of}
use Rattle.key_traffic.proofs.StoreLaws.{sets_front}
use Rattle.schedule_table.proofs.print.start_refused.Goals as goal

pub first_cursor-cursor-requires : goal.first_cursor-cursor-requires
unfolding asked_fits_of life_fits_of
first_cursor-cursor-requires c = refl

pub returns : goal.returns
returns c =
    let put = c.put_text-count in
    record {
      value =
          ap (λ (n : ℕ). record { count = n; cursor = c.first_cursor-cursor.result }) put.ensures.after
          ∙ ap (λ (k : Cursor). record { count = 2; cursor = k }) c.first_cursor-cursor.ensures;
      out_after = put.ensures.stored ∙ sets_front c.args.out.now (49 ∷ 10 ∷ []) (omega arith);
    }
