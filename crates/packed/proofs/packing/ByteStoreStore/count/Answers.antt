use Rattle.std.proofs.Common.{sym, ◌∙◌}
use lib.ListN.{length-map}
use Rattle.store.specs.Cells.{readable}
use Rattle.store.proofs.Insides.{count_is}
use Rattle.packed.specs.Rooms.{byte_nodes, byte_cells}
use Rattle.packed.proofs.Rows.{count_nodes}
use Rattle.packed.proofs.packing.ByteStoreStore.count.Goals as goal

pub returns : goal.returns
returns g c =
    let bs = c.args.self.now.bytes.now in
    c.count_in.ensures ∙ sym (count_is (byte_cells g.K.Key bs) ∙ length-map (byte_nodes g.K.Key bs) readable ∙ count_nodes g.K.Key bs)
