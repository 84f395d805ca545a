use Rattle.trees.proofs.Orders.{lawful}
use Rattle.moments.proofs.Makes.{made_inv}
use Rattle.moments.proofs.making_begins.Goals as goal

pub returns : goal.returns
returns g c =
    let key = g.met.K.Ordered in
    made_inv _ (lawful g.K.Ordered.fault g.K.Ordered.order (λ x. x.low) (λ x. x.high) key.reflexive key.reversal key.transitive)
