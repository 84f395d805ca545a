use Rattle.std.proofs.Common.{Err, ap, ◌∙◌}
use Rattle.std.proofs.lemmas.Result.{err_from_is_err_and}
use Rattle.sessions.proofs.Acting.{opening_refused, opening_taken}
use Rattle.sessions.proofs.lookup.Row.open.Goals as goal

pub returns-in_err-write-clause-does : goal.returns-in_err-write-clause-does
returns-in_err-write-clause-does g c =
    let p = err_from_is_err_and c.from_residual.result c.from_residual.ensures.1 in
    let h = c.in_err-write.ensures in
    opening_refused g.S.Key.Key.blank c.args.self.now c.args.session c.args.key.now c.args.root _ _ _ _ _ _
    c.seat.ensures h.value h.after (p.1 ∙ ap Err p.2)

pub returns-clause-does : goal.returns-clause-does
returns-clause-does g c =
    let h = c.in_ok-write.ensures in
    opening_taken g.S.Key.Key.blank c.args.self.now c.args.session c.args.key.now c.args.root _ _ _ _ _ _
    c.started.ensures c.seat.ensures c.filler-filler.ensures c.plain.ensures h.value h.after
