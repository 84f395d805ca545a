use Rattle.store.specs.Cells.{nodes_after}
use Rattle.store.proofs.Writes.{alike}
use Rattle.packed.specs.Rooms.{byte_nodes, bytes_after}
use Rattle.packed.proofs.Sames.{run_on}
use Rattle.packed.proofs.alike.write_both.Goals as goal

pub loop-n-preserved : goal.loop-n-preserved
loop-n-preserved g c =
    let k = g.K.Key in
    let ws = c.args.writes.now in
    let i = c.loop-n.n-index in (
      run_on (bytes_after k) ws i c.loop-n.bytes.bytes.now _ c.write.new.self.bytes.now
          c.loop-n-item.result c.loop-n-test.true c.loop-n-item.is c.write.ensures.bytes c.loop-n.invariant.0,
      run_on nodes_after ws i c.loop-n.records.nodes.now _ c.write-in-loop-n.new.self.nodes.now
          c.loop-n-item.result c.loop-n-test.true c.loop-n-item.is c.write-in-loop-n.ensures.nodes c.loop-n.invariant.1,
      λ start. alike (byte_nodes k c.loop-n.bytes.bytes.now) c.loop-n.records.nodes.now
          (byte_nodes k c.write.new.self.bytes.now) c.write-in-loop-n.new.self.nodes.now _ _
          c.write.ensures.after c.write-in-loop-n.ensures.after (c.loop-n.invariant.2 start),
    )
