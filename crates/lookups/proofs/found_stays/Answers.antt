use Rattle.runs.specs.Calls.{kind}
use Rattle.lookups.proofs.Theorems.{edit_keeps_found, others_keep_found}
use Rattle.lookups.proofs.found_stays.Goals as goal

pub returns : goal.returns
returns g c =
    let kd = kind g.K.Ordered.fault g.K.Ordered.order g.K.Key.blank in record { edits = edit_keeps_found kd; others = others_keep_found kd }
