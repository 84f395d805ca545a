use Rattle.trees.proofs.Orders.{lawful}
use Rattle.trees.proofs.Sets.{gives_after}
use Rattle.trees.proofs.set_gives_after.Goals as goal

pub returns : goal.returns
returns g c low high =
    let key = g.met.K.Ordered in
    gives_after _ (lawful g.K.Ordered.fault g.K.Ordered.order low high key.reflexive key.reversal key.transitive)
