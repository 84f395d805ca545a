use Rattle.std.proofs.Common.{rules}
use Rattle.walks.proofs.Walking.{end_cut, end_grow}
use Rattle.walks.proofs.walk.end_edge.Goals as goal

pub returns-in-None : goal.returns-in-None
returns-in-None g c =
    let m = end_cut (g.S.Store.cells c.args.store.now) c.args.draft.now c.args.added c.args.v.now c.in-None.is in
    search rules

pub returns-in-Some : goal.returns-in-Some
returns-in-Some g c =
    end_grow (g.S.Store.cells c.args.store.now) c.args.draft.now c.plant-left.new.draft c.copy_over.new.draft c.args.added c.args.v.now c.in-Some.region c.plant-left.result c.copy_over.result c.in-Some.is c.plant-left.ensures c.copy_over.ensures
