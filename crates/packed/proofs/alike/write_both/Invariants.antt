use Rattle.std.proofs.Common.{◌≡◌, drop}
use Rattle.store.specs.Cells.{all_readable, nodes_after}
use Rattle.packed.specs.Rooms.{byte_cells, bytes_after}
use Rattle.packed.specs.Meanings.{run}
use Rattle.packed.proofs.alike.write_both.Given as goal

-- the writes that are left lead from here to where all of them lead from the start; cells that agreed still do
abbrev pub invariant-loop-n : goal.invariant-loop-n
invariant-loop-n g l =
    let after = bytes_after g.K.Key in
    (run after l.bytes.bytes.now (drop l.n-index l.writes) ≡ run after l.initial.bytes.bytes.now l.writes)
    × (run nodes_after l.records.nodes.now (drop l.n-index l.writes) ≡ run nodes_after l.initial.records.nodes.now l.writes)
    × (byte_cells g.K.Key l.initial.bytes.bytes.now ≡ all_readable l.initial.records.nodes.now →
    byte_cells g.K.Key l.bytes.bytes.now ≡ all_readable l.records.nodes.now)
