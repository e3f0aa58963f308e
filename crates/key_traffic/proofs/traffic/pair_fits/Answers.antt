-- `key_traffic::traffic::pair_fits` meets its contract.
use Rattle.key_traffic.specs.Traffic.{pair_fits_of}
use Rattle.key_traffic.proofs.traffic.pair_fits.Goals as goal

pub returns : goal.returns
unfolding pair_fits_of
returns c = let e = c in
    simp (
      c.is_within.ensures,
      e.is_next.ensures,
      e.key_fits-2.ensures,
      e.key_fits.ensures,
    )
