use Rattle.std.proofs.Common.{Err, ap, ◌∙◌}
use Rattle.std.proofs.lemmas.Result.{err_from_is_err_and}
use Rattle.packed.proofs.Rows.{mark_room, mark_none}
use Rattle.packed.proofs.packing.mark_at.Goals as goal

pub returns-in_err-room : goal.returns-in_err-room
returns-in_err-room g c =
    let p = err_from_is_err_and c.from_residual.result c.from_residual.ensures.1 in
    p.1 ∙ ap Err p.2 ∙ mark_none g.K.Key c.args.bytes.now c.args.n _ c.in_err-room.ensures.value

pub returns : goal.returns
returns g c = mark_room g.K.Key c.args.bytes.now c.args.n c.in_ok-room.room c.in_ok-room.ensures.value
