use Rattle.lookups.proofs.Walks.{walks_down}
use Rattle.lookups.proofs.walk_is_path.Goals as goal

pub returns : goal.returns
returns g c = walks_down
