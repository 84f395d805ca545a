use Rattle.trees.proofs.Broken.{no_slack, not_after_two}
use Rattle.trees.proofs.balance_bound_is_sharp.Goals as goal

pub returns : goal.returns
returns c = (no_slack, not_after_two)
