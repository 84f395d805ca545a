use Rattle.trees.proofs.Broken.{copying_up}
use Rattle.trees.proofs.copying_up_breaks.Goals as goal

pub returns : goal.returns
returns c = copying_up
