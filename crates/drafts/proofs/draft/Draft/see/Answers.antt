use Rattle.std.proofs.lemmas.Result.{err_from_is_err_and}
use Rattle.drafts.proofs.Seeing.{see_none, see_old, see_refused, see_new, good_none, good_stored}
use Rattle.drafts.proofs.draft.Draft.see.Goals as goal

pub returns-in_default : goal.returns-in_default
returns-in_default g c = record {
  value = see_none c.args.self.now (g.S.Store.cells c.args.store.now) c.args.link c.in-Old.n c.in-Old.is c.in_default.ensures;
  good = good_none c.args.self.now;
}

pub returns-in_err-node-in-Old : goal.returns-in_err-node-in-Old
returns-in_err-node-in-Old g c =
    let p = err_from_is_err_and c.from_residual.result c.from_residual.ensures.1 in
    let q = see_refused c.args.self.now (g.S.Store.cells c.args.store.now) c.args.link c.in-Old.n c.in-Some.number _ _ _ c.in-Old.is c.in-Some.ensures c.in_err-node-in-Old.ensures p.1 p.2 in
    record { value = q.0; good = q.1 }

pub returns-in_ok-node-in-Old : goal.returns-in_ok-node-in-Old
returns-in_ok-node-in-Old g c = record {
  value = see_old c.args.self.now (g.S.Store.cells c.args.store.now) c.args.link c.in-Old.n c.in-Some.number c.in_ok-node-in-Old.node c.in-Old.is c.in-Some.ensures c.in_ok-node-in-Old.ensures;
  good = good_stored c.args.self.now _;
}

pub returns-in-New : goal.returns-in-New
returns-in-New g c =
    let q = see_new c.args.self.now (g.S.Store.cells c.args.store.now) c.args.link c.in-New.i c.entry.result c.in-New.is c.entry.ensures.stands in
    record { value = q.0; good = q.1 }
