use Rattle.lifting.proofs.Merging.{parted_lifts}
use Rattle.lifting.proofs.parted_lifts.Goals as goal

pub returns : goal.returns
returns g c cs p o l x r lower upper s h low few = parted_lifts cs p o l x r (lower x) (upper x) s h low few
