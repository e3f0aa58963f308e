-- `replay::lines::take_modem` meets its contract.
use mathlib.Core.Path.{◌∙◌, ap}
use lib.ListN.{length}
use Rattle.key_traffic.specs.Octets.{overlay}
use Rattle.replay.specs.Replay.{modem_read_of, modem_text}
use Rattle.replay.proofs.lines.take_modem.Goals as goal

pub returns : goal.returns
returns c = record {
  run = c.modem_read.ensures ∙ ap (λ x. modem_read_of x c.args.s) c.read_modem-x.ensures;
  count = c.put_modem-count.ensures.value.0 ∙ ap (λ x. length (modem_text x c.args.s)) c.read_modem-x.ensures;
  short = c.put_modem-count.ensures.upper_bound;
  written = c.put_modem-count.ensures.value.1 ∙ ap (λ x. overlay c.args.out.now (modem_text x c.args.s)) c.read_modem-x.ensures;
}
