-- `headend_limits::limits::entry_fits` meets its contract.
use Rattle.headend_limits.specs.Limits.{entry_fits_of}
use mathlib.Core.Path.{refl}
use Rattle.headend_limits.proofs.limits.entry_fits.Goals as goal

pub returns : goal.returns
unfolding entry_fits_of
returns c = simp (c.auth_keys_fit.ensures, c.saids_differ.ensures, c.listing_fits.ensures, c.address_fits.ensures) refl
