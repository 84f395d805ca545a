use Rattle.std.proofs.lemmas.Result.{err_from_is_err_and}
use Rattle.walks.proofs.Walking.{grow_none, grow_stop, grow_done}
use Rattle.walks.proofs.walk.grow_by.Goals as goal

pub returns-in-None : goal.returns-in-None
returns-in-None g c =
    grow_none (g.S.Store.cells c.args.store.now) c.args.draft.now c.plant.new.draft c.args.region c.args.link c.plant.result c.in-None.ensures c.plant.ensures

pub returns-in_err-side-in-Some : goal.returns-in_err-side-in-Some
returns-in_err-side-in-Some g c =
    let p = err_from_is_err_and c.from_residual.result c.from_residual.ensures.1 in
    grow_stop (g.S.Store.cells c.args.store.now) c.args.draft.now c.walk.new.draft c.args.region c.args.link c.in-Some.n c.in_err-side-in-Some.field-0.0 p.0 c.from_residual.result c.in-Some.ensures c.in_err-side-in-Some.ensures p.1 p.2

pub returns-in_ok-side-in-Some : goal.returns-in_ok-side-in-Some
returns-in_ok-side-in-Some g c =
    grow_done (g.S.Store.cells c.args.store.now) c.args.draft.now c.walk.new.draft c.args.region c.args.link c.in-Some.n _ c.in_ok-side-in-Some.side c.in-Some.ensures c.in_ok-side-in-Some.ensures
