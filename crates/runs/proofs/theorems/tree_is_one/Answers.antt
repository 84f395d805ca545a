use Rattle.runs.proofs.Links.{one_tree}
use Rattle.runs.proofs.theorems.tree_is_one.Goals as goal

pub returns : goal.returns
returns g c = one_tree _
