-- `message_writer::limits::fields_fit` meets its contract.
use Rattle.message_rules.specs.Limits.{fields_fit_of}
use Rattle.message_writer.proofs.limits.fields_fit.Goals as goal

pub returns : goal.returns
unfolding fields_fit_of
returns c = simp (
  c.head_fits.ensures,
  c.carried_or.ensures,
  c.carried_or-2.ensures,
  c.carried_or-3.ensures,
  c.carried_or-4.ensures,
  c.carried_or-5.ensures,
  c.carried_or-6.ensures,
  c.ak_in_range.ensures,
  c.descriptors_fit.ensures,
  c.descriptors_zero.ensures,
  c.pair_fit.ensures,
  c.params_zero.ensures,
  c.params_zero-2.ensures,
)
