-- `message_writer::limits::auth_key_fits` meets its contract.
use Rattle.message_rules.specs.Limits.{auth_key_fits_of}
use Rattle.message_writer.proofs.limits.auth_key_fits.Goals as goal

pub returns : goal.returns
unfolding auth_key_fits_of
returns c = simp c.is_required.ensures
