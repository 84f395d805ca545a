use Rattle.trees.proofs.Places.{goes_down}
use Rattle.trees.proofs.search_goes_down.Goals as goal

pub returns : goal.returns
returns g c = goes_down
