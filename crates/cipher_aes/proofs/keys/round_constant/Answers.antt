-- `keys::round_constant` meets its contract: by the table.
use Rattle.std.proofs.Common.{refl}
use Rattle.cipher_aes.specs.Keys.{rcons, rcon}
use Rattle.cipher_aes.proofs.keys.round_constant.Goals as goal

pub returns : goal.returns
unfolding rcons rcon
returns c = refl
