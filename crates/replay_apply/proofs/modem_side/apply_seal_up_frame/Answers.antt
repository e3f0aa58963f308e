-- `replay_apply::modem_side::apply_seal_up_frame` meets its contract.
use Rattle.replay_apply.proofs.FrameLaws.{seal_up_frame_applied}
use Rattle.replay_apply.proofs.modem_side.apply_seal_up_frame.Goals as goal

pub returns : goal.returns
returns c = let called = c.seal_frame-r in
    (seal_up_frame_applied c.args.e _ _ _ _ called.result c.answer_number.ensures called.ensures.0, called.ensures.1)
