-- `message_digest::digest::message_key_fits` meets its contract.
use mathlib.Core.Path.{refl}
use Rattle.message_digest.proofs.digest.message_key_fits.Goals as goal

pub returns : goal.returns
returns c = refl
