use Rattle.trees.proofs.Orders.{lawful}
use Rattle.trees.proofs.Steps.{every_step}
use Rattle.trees.proofs.edits_step.Goals as goal

pub returns : goal.returns
returns g c low high =
    let key = g.met.K.Ordered in
    every_step _ (lawful g.K.Ordered.fault g.K.Ordered.order low high key.reflexive key.reversal key.transitive)
