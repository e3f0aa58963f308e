-- `questions::apart::all_apart` meets its contract.

use Rattle.questions.proofs.apart.all_apart.Goals as goal

pub returns : goal.returns
returns c = simp (
  c.is_apart.ensures,
  c.is_apart-2.ensures,
  c.is_apart-3.ensures,
  c.is_apart-4.ensures,
  c.is_apart-5.ensures,
  c.is_apart-6.ensures,
)
