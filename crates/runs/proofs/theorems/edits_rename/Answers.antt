use Rattle.runs.specs.Calls.{kind, regions}
use Rattle.runs.proofs.Relabels.{edits_rename}
use Rattle.runs.proofs.theorems.edits_rename.Goals as goal

pub returns : goal.returns
returns g c = edits_rename (regions (kind g.K.Ordered.fault g.K.Ordered.order g.K.Key.blank))
