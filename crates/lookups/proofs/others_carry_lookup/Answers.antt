use Rattle.trees.proofs.Orders.{lawful}
use Rattle.lookups.proofs.Theorems.{others_carry}
use Rattle.lookups.proofs.others_carry_lookup.Goals as goal

pub returns : goal.returns
returns g c =
    let key = g.met.K.Ordered in
    others_carry _ (lawful g.K.Ordered.fault g.K.Ordered.order _ _ key.reflexive key.reversal key.transitive)
