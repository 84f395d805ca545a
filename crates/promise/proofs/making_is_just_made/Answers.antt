use Rattle.promise.proofs.Making.{making_well}
use Rattle.promise.proofs.making_is_just_made.Goals as goal

pub returns : goal.returns
returns g c = making_well _
