-- `asked_fits` meets its contract.
use Rattle.schedule_table.specs.Schedule.{asked_fits_of}
use Rattle.schedule_table.proofs.input.asked_fits.Goals as goal

pub returns : goal.returns
unfolding asked_fits_of
returns c = simp c.life_fits.ensures
