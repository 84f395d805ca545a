use Rattle.trees.proofs.Orders.{lawful}
use Rattle.trees.proofs.Overlaps.{overlap_on_path}
use Rattle.trees.proofs.overlap_is_on_path.Goals as goal

pub returns : goal.returns
returns g c low high =
    let key = g.met.K.Ordered in
    overlap_on_path _ (lawful g.K.Ordered.fault g.K.Ordered.order low high key.reflexive key.reversal key.transitive)
