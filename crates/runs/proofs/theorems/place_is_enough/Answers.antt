use Rattle.runs.proofs.Chains.{place_is_enough}
use Rattle.runs.proofs.theorems.place_is_enough.Goals as goal

pub returns : goal.returns
returns g c = place_is_enough _
