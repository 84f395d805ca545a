use Rattle.trees.proofs.Orders.{lawful}
use Rattle.trees.proofs.Steps.{empty_stands}
use Rattle.trees.proofs.empty_tree_stands.Goals as goal

pub returns : goal.returns
returns g c low high =
    let key = g.met.K.Ordered in
    empty_stands _ (lawful g.K.Ordered.fault g.K.Ordered.order low high key.reflexive key.reversal key.transitive)
