-- `message_reader::read::is_received` meets its contract.

use Rattle.message_reader.proofs.read.is_received.Goals as goal

pub returns-in-HeadEnd : goal.returns-in-HeadEnd
returns-in-HeadEnd c = rw c.in-HeadEnd.is c.head_end_receives.ensures

pub returns-in-Modem : goal.returns-in-Modem
returns-in-Modem c = rw c.in-Modem.is c.modem_receives.ensures
