use Rattle.std.proofs.lemmas.Result.{err_from_is_err_and}
use Rattle.drafts.proofs.Seeing.{fine_old}
use Rattle.grafts.proofs.Replacing.{side_fine, left_empty, right_empty, both_stopped, both_merged}
use Rattle.grafts.proofs.dropping.replace.Goals as goal

pub returns-in_err-side-in-Some-Some : goal.returns-in_err-side-in-Some-Some
returns-in_err-side-in-Some-Some g c =
    let p = err_from_is_err_and c.from_residual.result c.from_residual.ensures.1 in
    let m = c.in_err-side-in-Some-Some.ensures in
    let r = both_stopped (g.S.Store.cells c.args.store.now) c.args.p.now c.in-Some-Some.field-0-0 c.in-Some-Some.field-0-1 c.merge.new.draft c.in_err-side-in-Some-Some.field-0.0 _ c.from_residual.result
    c.in-Some-Some.ensures c.in-Some-Some.ensures' m.value p.1 p.2 in
    record { value = r.0; fine = r.1 }

pub returns-in-None-default : goal.returns-in-None-default
returns-in-None-default g c =
    let e = c.leave.ensures in
    record {
      value = left_empty (g.S.Store.cells c.args.store.now) c.args.p.now c.args.draft.now c.leave.new.self c.in-None-default.ensures c.requires.gone e.gone;
      fine = fine_old c.leave.new.self c.args.p.now.node.right;
    }

pub returns-in-Some-None : goal.returns-in-Some-None
returns-in-Some-None g c =
    let e = c.leave-in-Some-None.ensures in
    record {
      value = right_empty (g.S.Store.cells c.args.store.now) c.args.p.now c.args.draft.now c.leave-in-Some-None.new.self c.in-Some-None.field-0-0 c.in-Some-None.ensures c.in-Some-None.ensures' c.requires.gone e.gone;
      fine = fine_old c.leave-in-Some-None.new.self c.args.p.now.node.left;
    }

pub returns-in_ok-side-in-Some-Some : goal.returns-in_ok-side-in-Some-Some
returns-in_ok-side-in-Some-Some g c =
    let m = c.in_ok-side-in-Some-Some.ensures in
    record {
      value = both_merged (g.S.Store.cells c.args.store.now) c.args.p.now c.in-Some-Some.field-0-0 c.in-Some-Some.field-0-1 c.merge.new.draft c.in_ok-side-in-Some-Some.side c.link.result
          c.in-Some-Some.ensures c.in-Some-Some.ensures' m.value m.good c.link.ensures;
      fine = side_fine c.merge.new.draft c.in_ok-side-in-Some-Some.side c.link.result m.good c.link.ensures;
    }
