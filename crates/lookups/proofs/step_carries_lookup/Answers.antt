use Rattle.trees.proofs.Orders.{lawful}
use Rattle.lookups.proofs.Theorems.{step_carries}
use Rattle.lookups.proofs.step_carries_lookup.Goals as goal

pub returns : goal.returns
returns g c =
    let key = g.met.K.Ordered in
    step_carries _ (lawful g.K.Ordered.fault g.K.Ordered.order _ _ key.reflexive key.reversal key.transitive)
