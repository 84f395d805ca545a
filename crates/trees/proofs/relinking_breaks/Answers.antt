use Rattle.trees.proofs.Broken.{relinking}
use Rattle.trees.proofs.relinking_breaks.Goals as goal

pub returns : goal.returns
returns c = relinking
