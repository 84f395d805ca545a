use Rattle.runs.proofs.Cheats.{cheats_fail}
use Rattle.runs.proofs.theorems.cheats_fail.Goals as goal

pub returns : goal.returns
returns g c = cheats_fail _
