use Rattle.runs.specs.Calls.{kind}
use Rattle.trees.proofs.Orders.{lawful}
use Rattle.lifting.proofs.Seeking.{holder_descends}
use Rattle.lifting.proofs.holder_descends.Goals as goal

pub returns : goal.returns
returns g c =
    let key = g.met.K.Ordered in
    holder_descends (kind g.K.Ordered.fault g.K.Ordered.order g.K.Key.blank)
    (lawful g.K.Ordered.fault g.K.Ordered.order (λ x. x.low) (λ x. x.high) key.reflexive key.reversal key.transitive)
