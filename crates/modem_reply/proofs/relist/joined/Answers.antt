-- `modem_reply::relist::joined` meets its contract.
use Rattle.modem_steps.proofs.ReadyLaws.{tek_ready, none_short}
use Rattle.modem_reply.proofs.relist.joined.Goals as goal

pub step-s-requires : goal.step-s-requires
step-s-requires c = tek_ready c.args.w.modem c.tek_context.result c.no_params-none.result c.no_params-none.result c.tek_context.ensures c.requires (none_short _ c.no_params-none.ensures) (none_short _ c.no_params-none.ensures)
