use Rattle.trees.proofs.Orders.{lawful}
use Rattle.moments.proofs.Edits.{edit_keeps}
use Rattle.moments.proofs.edits_keep.Goals as goal

pub returns : goal.returns
returns g c =
    let key = g.met.K.Ordered in
    edit_keeps _ (lawful g.K.Ordered.fault g.K.Ordered.order (λ x. x.low) (λ x. x.high) key.reflexive key.reversal key.transitive)
