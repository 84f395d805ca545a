use Rattle.std.proofs.Common.{length, Err, sym, refl, ap, ◌∙◌, subst}
use Rattle.std.proofs.lemmas.Result.{err_from_is_err_and}
use Rattle.store.specs.Cells.{Written}
use Rattle.packed.specs.Rooms.{byte_cells, left_over}
use Rattle.packed.proofs.Rows.{write_room, write_none, unwritten_none, after_is, after_none, rest_kept, written_after}
use Rattle.packed.proofs.packing.write_at.Goals as goal

pub returns-in_err-room : goal.returns-in_err-room
returns-in_err-room g c =
    let p = err_from_is_err_and c.from_residual.result c.from_residual.ensures.1 in
    let k = g.K.Key in
    let bs = c.args.bytes.now in
    let h = c.in_err-room.ensures.value in
    record {
      value = p.1 ∙ ap Err p.2 ∙ write_none k bs c.args.n _ h;
      after = unwritten_none k bs c.args.n c.args.v.now _ h;
      bytes = after_none k bs c.args.n c.args.v.now _ h;
      rest = refl {a = left_over k bs};
    }

pub returns : goal.returns
returns g c =
    let k = g.K.Key in
    let bs = c.args.bytes.now in
    let n = c.args.n in
    let v = c.args.v.now in
    let room = c.in_ok-room.room in
    let h = c.in_ok-room.ensures.value in
    let same = after_is k bs n v room c.encode.new.out h c.encode.ensures.written in
    record {
      value = write_room k bs n room h;
      after = subst (λ l. Written (byte_cells k bs) n v (byte_cells k l)) (sym same) (written_after k bs n v c.encode.ensures.sized c.encode.ensures.back room h);
      bytes = same;
      rest = rest_kept k bs n v room c.encode.new.out h (ap length c.encode.ensures.written ∙ c.encode.ensures.sized);
    }
