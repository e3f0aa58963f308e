-- `replay_apply::modem_side::apply_open_down_frame` meets its contract.
use Rattle.replay_apply.proofs.FrameLaws.{open_down_frame_applied}
use Rattle.replay_apply.proofs.modem_side.apply_open_down_frame.Goals as goal

pub returns : goal.returns
returns c = let called = c.open_frame-r in
    (open_down_frame_applied c.args.e _ _ _ _ _ _ _ _ _ called.result c.answer_number.ensures called.ensures.0, called.ensures.1, called.ensures.2)
