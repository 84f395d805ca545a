use Rattle.trees.proofs.Orders.{lawful}
use Rattle.trees.proofs.Sets.{keeps_set}
use Rattle.trees.proofs.set_stays_one.Goals as goal

pub returns : goal.returns
returns g c low high =
    let key = g.met.K.Ordered in
    keeps_set _ (lawful g.K.Ordered.fault g.K.Ordered.order low high key.reflexive key.reversal key.transitive)
