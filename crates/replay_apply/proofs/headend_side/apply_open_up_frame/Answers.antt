-- `replay_apply::headend_side::apply_open_up_frame` meets its contract.
use Rattle.replay_apply.proofs.FrameLaws.{open_up_frame_applied}
use Rattle.replay_apply.proofs.headend_side.apply_open_up_frame.Goals as goal

pub returns : goal.returns
returns c = let called = c.open_frame_held-r in
    (open_up_frame_applied c.args.e _ _ _ _ _ _ _ _ _ called.result c.answer_number.ensures called.ensures.0, called.ensures.1, called.ensures.2)
