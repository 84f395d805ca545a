use Rattle.moments.proofs.Calls.{counts_keep}
use Rattle.moments.proofs.counts_keep.Goals as goal

pub returns : goal.returns
returns g c = counts_keep _
