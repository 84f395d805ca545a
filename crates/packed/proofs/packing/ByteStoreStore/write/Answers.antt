use Rattle.packed.specs.Rooms.{byte_nodes}
use Rattle.packed.proofs.Rows.{in_range_kept}
use Rattle.packed.proofs.packing.ByteStoreStore.write.Goals as goal

pub returns-clause-keeps : goal.returns-clause-keeps
returns-clause-keeps g c =
    in_range_kept (byte_nodes g.K.Key c.args.self.now.bytes.now) (byte_nodes g.K.Key c.write_at.new.bytes) c.args.n c.args.v.now c.write_at.ensures.after
