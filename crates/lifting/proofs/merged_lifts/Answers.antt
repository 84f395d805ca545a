use Rattle.lifting.proofs.Merging.{merged_lifts}
use Rattle.lifting.proofs.merged_lifts.Goals as goal

pub returns : goal.returns
returns g c cs = merged_lifts cs
