use Rattle.trees.proofs.Orders.{lawful}
use Rattle.throughout.proofs.Joins.{exact_runs_keep}
use Rattle.throughout.proofs.exact_runs_keep.Goals as goal

pub returns : goal.returns
returns g c =
    let key = g.met.K.Ordered in
    exact_runs_keep _ (lawful g.K.Ordered.fault g.K.Ordered.order (λ x. x.low) (λ x. x.high) key.reflexive key.reversal key.transitive)
