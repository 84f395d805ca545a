use Rattle.trees.proofs.Orders.{lawful}
use Rattle.lookups.proofs.Theorems.{lookup_opens}
use Rattle.lookups.proofs.lookup_opens.Goals as goal

pub returns : goal.returns
returns g c =
    let key = g.met.K.Ordered in
    lookup_opens _ (lawful g.K.Ordered.fault g.K.Ordered.order _ _ key.reflexive key.reversal key.transitive)
