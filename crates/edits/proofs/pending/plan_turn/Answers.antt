use Rattle.std.proofs.Common.{◌≤◌, ◌+◌, length, ap, arith, rules}
use Rattle.std.proofs.lemmas.Result.{err_from_is_err_and}
use Rattle.drafts.proofs.Seeing.{grew_left, good_stays}
use Rattle.edits.proofs.Advancing.{only, plan_stop, plan_unread, plan_done}
use Rattle.edits.proofs.pending.plan_turn.Goals as goal

pub rotate-requires : goal.rotate-requires
rotate-requires g c =
    let e = c.leave.ensures in
    let q = grew_left c.args.draft.now c.leave.new.self c.args.w.now.node e.gone e.made in
    let room : length c.leave.new.self.made + 3 ≤ 96 = omega (arith, ap length e.made, ap length c.requires.made) in
    let out : length c.leave.new.self.gone + 2 ≤ 96 = omega (arith, q.few_out, ap length c.requires.gone) in
    let left = good_stays c.args.w.now.left q c.requires.left in
    let right = good_stays c.args.w.now.right q c.requires.right in
    search rules

pub returns-in_err-top : goal.returns-in_err-top
returns-in_err-top g c =
    let p = err_from_is_err_and c.from_residual.result c.from_residual.ensures.1 in
    let e = c.leave.ensures in
    let m = rw c.region.ensures at c.in_err-top.ensures in
    let r = plan_stop (g.S.Store.cells c.args.store.now) c.args.above.now c.args.draft.now c.leave.new.self _ c.args.w.now c.args.lean _ _ _
    (grew_left c.args.draft.now c.leave.new.self c.args.w.now.node e.gone e.made) (only c.args.draft.now c.leave.new.self c.args.w.now.node c.requires.gone e.gone) c.requires.left c.requires.right m p.1 p.2 in
    record { value = r.0; good = r.1 }

pub returns-in_err-joint : goal.returns-in_err-joint
returns-in_err-joint g c =
    let p = err_from_is_err_and c.from_residual-in_err-joint.result c.from_residual-in_err-joint.ensures.1 in
    let e = c.leave.ensures in
    let m = rw c.region.ensures at c.in_ok-top.ensures in
    let r = plan_unread (g.S.Store.cells c.args.store.now) c.args.above.now c.args.draft.now c.leave.new.self _ c.args.w.now c.args.lean c.in_ok-top.top _ _ _
    (grew_left c.args.draft.now c.leave.new.self c.args.w.now.node e.gone e.made) (only c.args.draft.now c.leave.new.self c.args.w.now.node c.requires.gone e.gone) c.requires.left c.requires.right m
    c.in_err-joint.ensures p.1 p.2 in
    record { value = r.0; good = r.1 }

pub returns : goal.returns
returns g c =
    let e = c.leave.ensures in
    let m = rw c.region.ensures at c.in_ok-top.ensures in
    record {
      value = plan_done (g.S.Store.cells c.args.store.now) c.args.above.now c.args.draft.now c.leave.new.self _ c.args.w.now c.args.lean c.in_ok-top.top c.in_ok-joint.joint
          (grew_left c.args.draft.now c.leave.new.self c.args.w.now.node e.gone e.made) (only c.args.draft.now c.leave.new.self c.args.w.now.node c.requires.gone e.gone) c.requires.left c.requires.right m
          c.in_ok-joint.ensures;
      good = m.good;
    }
