use Rattle.trees.proofs.Orders.{lawful}
use Rattle.moments.proofs.Runs.{runs_keep}
use Rattle.moments.proofs.runs_keep.Goals as goal

pub returns : goal.returns
returns g c =
    let key = g.met.K.Ordered in
    runs_keep _ (lawful g.K.Ordered.fault g.K.Ordered.order (λ x. x.low) (λ x. x.high) key.reflexive key.reversal key.transitive)
