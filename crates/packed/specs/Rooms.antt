-- Nodes packed one after another into a row of bytes.
use Rattle.std.specs.Prelude.{ℕ, zero, suc, ◌+◌, ◌-◌, ◌*◌, ◌/◌, cond, List, [], ◌∷◌, ◌++◌, length, take, drop, Ok, Result}
use Rattle.keys.specs.declared.key.Key as key
use Rattle.store.specs.declared.node.Node.{Node}
use Rattle.store.specs.declared.fault.Function.{Function}
use Rattle.store.specs.declared.fault.StoreFault.{StoreFault}
use Rattle.std.specs.declared.ops.Range.{Range}
use Rattle.store.specs.Faults.{outside, inside_or}
use Rattle.store.specs.Cells.{Cell, all_readable}
use Rattle.packed.specs.Layout.{node_width, node_of, node_bytes}

-- the first k nodes of a row, each of m bytes
abbrev pub nodes_in : {K : Type 0} → ℕ → (List ℕ → Node K) → ℕ → List ℕ → List (Node K)
nodes_in m node zero bs = []
nodes_in m node (suc k) bs = node (take m bs) ∷ nodes_in m node k (drop m bs)

-- the nodes that a row of bytes holds: as many as fit, rounded down
abbrev pub byte_nodes : {K F : Type 0} → key.Ghosts K F → List ℕ → List (Node K)
byte_nodes k bs = nodes_in (node_width k.wide) (node_of k) (length bs / node_width k.wide) bs

-- what a byte store means: none of its nodes is closed
abbrev pub byte_cells : {K F : Type 0} → key.Ghosts K F → List ℕ → List (Cell K)
byte_cells k bs = all_readable (byte_nodes k bs)

-- where node n lies, each of the nodes having m bytes
abbrev pub room : ℕ → ℕ → Range ℕ
room n m = record { start = (n - 1) * m; end = (n - 1) * m + m }

-- where node n lies in a row of `len` bytes, if it is one of the nodes
abbrev pub room_answer : Function → ℕ → ℕ → ℕ → Result (Range ℕ) StoreFault
room_answer f n len m = inside_or f n (len / m) (Ok (room n m))

-- the bytes after v was written to node n: those before the node and those behind it are as they were;
-- all are as they were where n is outside
unfoldable pub bytes_after : {K F : Type 0} → key.Ghosts K F → List ℕ → ℕ → Node K → List ℕ
bytes_after k bs n v =
    let m = node_width k.wide in
    cond (outside n (length bs / m)) bs (take ((n - 1) * m) bs ++ (node_bytes k v ++ drop ((n - 1) * m + m) bs))

-- the bytes that are left over, too few for one more node
abbrev pub left_over : {K F : Type 0} → key.Ghosts K F → List ℕ → List ℕ
left_over k bs = drop (length bs / node_width k.wide * node_width k.wide) bs
