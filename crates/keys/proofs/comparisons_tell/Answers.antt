use Rattle.keys.proofs.Tellings.{comparisons_tell}
use Rattle.keys.proofs.comparisons_tell.Goals as goal

pub returns : goal.returns
returns c = comparisons_tell
