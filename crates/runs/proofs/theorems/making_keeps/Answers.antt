use Rattle.runs.proofs.Makes.{making_keeps}
use Rattle.runs.proofs.theorems.making_keeps.Goals as goal

pub returns : goal.returns
returns g c = making_keeps _
