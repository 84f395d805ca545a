use Rattle.std.proofs.Common.{◌-◌, Err, ap, ◌∙◌}
use Rattle.std.proofs.lemmas.Result.{err_from_is_err_and}
use Rattle.store.proofs.Insides.{count_is}
use Rattle.grafts.proofs.Asking.{room_unread, room_full, room_left}
use Rattle.grafts.proofs.asks.has_room.Goals as goal

pub returns-in_err-size : goal.returns-in_err-size
returns-in_err-size g c =
    let p = err_from_is_err_and c.from_residual.result c.from_residual.ensures.1 in
    p.1 ∙ ap Err p.2 ∙ room_unread (g.S.Store.cells c.args.store.now) c.args.root c.size_at.result _ c.size_at.ensures c.in_err-size.ensures

pub returns-then-saturating_sub-size : goal.returns-then-saturating_sub-size
returns-then-saturating_sub-size g c =
    let cs = g.S.Store.cells c.args.store.now in
    room_full cs c.args.root c.in_ok-size.size c.saturating_sub.result c.size_at.result c.size_at.ensures c.in_ok-size.ensures
    (c.saturating_sub.ensures ∙ ap (λ n. n - 128) (c.count.ensures ∙ count_is cs)) c.if-saturating_sub-size.true

pub returns : goal.returns
returns g c =
    let cs = g.S.Store.cells c.args.store.now in
    room_left cs c.args.root c.in_ok-size.size c.saturating_sub.result c.size_at.result c.size_at.ensures c.in_ok-size.ensures
    (c.saturating_sub.ensures ∙ ap (λ n. n - 128) (c.count.ensures ∙ count_is cs)) c.if-saturating_sub-size.false
