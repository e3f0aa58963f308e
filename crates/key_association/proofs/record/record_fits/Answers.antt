-- `key_association::record::record_fits` meets its contract.
use Rattle.key_association.specs.Record.{record_fits_of}
use Rattle.key_association.proofs.record.record_fits.Goals as goal

pub returns : goal.returns
unfolding record_fits_of
returns c = simp (
  c.deadlines_fit.ensures,
  c.is_next.ensures,
  c.key_fits-2.ensures,
  c.key_fits.ensures,
  c.suite_known.ensures,
  c.said_fits.ensures,
  c.width-w.ensures.0,
)
