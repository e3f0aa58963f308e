-- `replay_apply::headend_side::apply_seal_down_frame` meets its contract.
use Rattle.replay_apply.proofs.FrameLaws.{seal_down_frame_applied}
use Rattle.replay_apply.proofs.headend_side.apply_seal_down_frame.Goals as goal

pub returns : goal.returns
returns c = let called = c.seal_frame_held-r in
    (seal_down_frame_applied c.args.e _ _ _ _ _ called.result c.answer_number.ensures called.ensures.0, called.ensures.1)
