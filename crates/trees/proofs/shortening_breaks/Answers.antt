use Rattle.trees.proofs.Broken.{shortening}
use Rattle.trees.proofs.shortening_breaks.Goals as goal

pub returns : goal.returns
returns c = shortening
