use Rattle.trees.proofs.Orders.{lawful}
use Rattle.moments.proofs.Runs.{kept_whole}
use Rattle.moments.proofs.promise_is_whole.Goals as goal

pub returns : goal.returns
returns g c =
    let key = g.met.K.Ordered in
    kept_whole _ (lawful g.K.Ordered.fault g.K.Ordered.order (λ x. x.low) (λ x. x.high) key.reflexive key.reversal key.transitive)
