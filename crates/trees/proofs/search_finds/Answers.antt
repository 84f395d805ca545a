use Rattle.trees.proofs.Orders.{lawful}
use Rattle.trees.proofs.Spells.{set_finds}
use Rattle.trees.proofs.search_finds.Goals as goal

pub returns : goal.returns
returns g c low high =
    let key = g.met.K.Ordered in
    set_finds _ (lawful g.K.Ordered.fault g.K.Ordered.order low high key.reflexive key.reversal key.transitive)
