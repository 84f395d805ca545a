use Rattle.std.proofs.Common.{length, ap, rules}
use Rattle.std.proofs.lemmas.Result.{err_from_is_err_and}
use Rattle.drafts.proofs.Seeing.{fine_old}
use Rattle.walks.proofs.Walking.{left_one, merge_stop, merge_unread, merge_done}
use Rattle.walks.proofs.walk.merge.Goals as goal

pub returns-in_err-least : goal.returns-in_err-least
returns-in_err-least g c =
    let p = err_from_is_err_and c.from_residual.result c.from_residual.ensures.1 in
    let m = merge_stop (g.S.Store.cells c.args.store.now) c.args.p.now c.args.draft.now c.leave.new.self c.walk.new.draft c.in_err-least.field-0.0 p.0 c.from_residual.result c.requires.gone
    (left_one _ _ _ c.leave.ensures.gone c.leave.ensures.made) c.in_err-least.ensures p.1 p.2 in
    record { value = m.is; good = m.good }

pub returns-in_err-v : goal.returns-in_err-v
returns-in_err-v g c =
    let p = err_from_is_err_and c.from_residual-in_err-v.result c.from_residual-in_err-v.ensures.1 in
    let m = merge_unread (g.S.Store.cells c.args.store.now) c.args.p.now c.args.draft.now c.leave.new.self c.walk.new.draft c.in_ok-least.least c.in_ok-least.rest c.in_err-v.field-0.0 p.0 c.from_residual-in_err-v.result c.requires.gone
    (left_one _ _ _ c.leave.ensures.gone c.leave.ensures.made) c.in_ok-least.ensures c.in_err-v.ensures p.1 p.2 in
    record { value = m.is; good = m.good }

pub top_over-requires : goal.top_over-requires
top_over-requires g c =
    let m = c.in_ok-least.ensures in
    let few = m.grew.few in
    let few_out = m.grew.few_out in
    let f = left_one c.args.draft.now _ _ c.leave.ensures.gone c.leave.ensures.made in
    let made = f.grew.few in
    let gone = f.grew.few_out in
    let none_made = ap length c.requires.made in
    let none_gone = ap length c.requires.gone in
    let left = fine_old c.walk.new.draft in
    let right = m.good in
    search rules

pub returns : goal.returns
returns g c =
    let m = merge_done (g.S.Store.cells c.args.store.now) c.args.p.now c.args.draft.now c.leave.new.self c.walk.new.draft c.top_over.new.draft c.in_ok-least.least c.in_ok-least.rest
    c.in_ok-v.v c.region.result c.top_over.result _ c.requires.gone (left_one _ _ _ c.leave.ensures.gone c.leave.ensures.made) c.in_ok-least.ensures c.in_ok-v.ensures
    c.region.ensures c.top_over.ensures (search rules) in
    record { value = m.is; good = m.good }
