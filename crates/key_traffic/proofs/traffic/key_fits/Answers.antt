-- `key_traffic::traffic::key_fits` meets its contract.
use Rattle.key_traffic.specs.Traffic.{key_fits_of}
use Rattle.key_traffic.proofs.traffic.key_fits.Goals as goal

pub returns : goal.returns
unfolding key_fits_of
returns c = simp (c.zero_past-2.ensures, c.zero_past.ensures, c.tek_in_range.ensures)
