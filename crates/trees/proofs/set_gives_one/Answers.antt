use Rattle.trees.proofs.Orders.{lawful}
use Rattle.trees.proofs.Sets.{gives_one}
use Rattle.trees.proofs.set_gives_one.Goals as goal

pub returns : goal.returns
returns g c low high =
    let key = g.met.K.Ordered in
    gives_one _ (lawful g.K.Ordered.fault g.K.Ordered.order low high key.reflexive key.reversal key.transitive)
