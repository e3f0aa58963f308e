-- `modem_receive::receive::identifier_fits` meets its contract.
use native.Mathlib.Omega.{arith}
use Rattle.modem_receive.proofs.ReceiveLaws.{in-range, known_slot}
use Rattle.modem_receive.proofs.receive.identifier_fits.Goals as goal

pub is_tek_waiting-requires : goal.is_tek_waiting-requires
is_tek_waiting-requires c = let a = c.args in
    known_slot a.m a.f (in-range 8 a.f.code (omega arith) (omega arith)) c.requires
