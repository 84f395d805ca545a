use Rattle.trees.proofs.Orders.{lawful}
use Rattle.lookups.proofs.Promised.{lookups_follow}
use Rattle.lookups.proofs.lookups_follow.Goals as goal

pub returns : goal.returns
returns g c =
    let key = g.met.K.Ordered in
    lookups_follow _ (lawful g.K.Ordered.fault g.K.Ordered.order _ _ key.reflexive key.reversal key.transitive)
