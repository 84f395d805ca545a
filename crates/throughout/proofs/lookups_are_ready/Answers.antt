use Rattle.trees.proofs.Orders.{lawful}
use Rattle.throughout.proofs.Joins.{lookups_ready}
use Rattle.throughout.proofs.lookups_are_ready.Goals as goal

pub returns : goal.returns
returns g c =
    let key = g.met.K.Ordered in
    lookups_ready _ (lawful g.K.Ordered.fault g.K.Ordered.order (λ x. x.low) (λ x. x.high) key.reflexive key.reversal key.transitive)
