use Rattle.std.proofs.Common.{rules}
use Rattle.search.specs.Paths.{above}
use Rattle.edits.proofs.tree.Tree.above.Goals as goal

pub returns-in-empty : goal.returns-in-empty
unfolding above
returns-in-empty c = search rules

pub returns-in-len1-up : goal.returns-in-len1-up
unfolding above
returns-in-len1-up c = search rules
