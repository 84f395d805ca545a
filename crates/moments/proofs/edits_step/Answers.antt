use Rattle.trees.proofs.Orders.{lawful}
use Rattle.moments.proofs.Edits.{edit_steps}
use Rattle.moments.proofs.edits_step.Goals as goal

pub returns : goal.returns
returns g c =
    let key = g.met.K.Ordered in
    edit_steps _ (lawful g.K.Ordered.fault g.K.Ordered.order (λ x. x.low) (λ x. x.high) key.reflexive key.reversal key.transitive)
