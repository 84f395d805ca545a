use Rattle.trees.proofs.Orders.{lawful}
use Rattle.promise.proofs.Promised.{promised}
use Rattle.promise.proofs.stores_keep_promise.Goals as goal

pub returns : goal.returns
returns g c =
    let key = g.met.S.Key.Ordered in
    let laws = lawful g.S.Key.Ordered.fault g.S.Key.Ordered.order (λ x. x.low) (λ x. x.high) key.reflexive key.reversal key.transitive in
    λ parts. promised _ laws parts _ _ g.S.Store.lawful
