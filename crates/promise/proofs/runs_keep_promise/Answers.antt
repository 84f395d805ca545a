use Rattle.trees.proofs.Orders.{lawful}
use Rattle.promise.proofs.Promised.{promised}
use Rattle.promise.proofs.runs_keep_promise.Goals as goal

pub returns : goal.returns
returns g c =
    let key = g.met.K.Ordered in
    let laws = lawful g.K.Ordered.fault g.K.Ordered.order (λ x. x.low) (λ x. x.high) key.reflexive key.reversal key.transitive in
    λ parts. promised _ laws parts _ _ (λ cs f. f)
