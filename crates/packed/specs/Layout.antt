-- A node as bytes: mark, left, right, size, rows, waits, low, high, each number highest byte first.
use Rattle.std.specs.Prelude.{◌≡◌, ℕ, ◌+◌, ◌*◌, Bool, cond, List, ◌∷◌, ◌++◌, length, take, drop, Some, None, Option, ◌==◌, nat_lt, slice_index}
use Rattle.keys.specs.Bytes.{bytes, number}
use Rattle.keys.specs.declared.key.Key as key
use Rattle.store.specs.declared.node.Node.{Node}

-- how many bytes a node has whose keys have w
abbrev pub node_width : ℕ → ℕ
node_width w = 19 + 2 * w

-- the 19 bytes before the keys: 1 of the mark, 2 of each link and of the size, 8 of the rows, 4 of the waits
abbrev pub head_bytes : ℕ → ℕ → ℕ → ℕ → ℕ → ℕ → List ℕ
head_bytes mark left right size rows waits =
    mark ∷ (bytes 2 left ++ (bytes 2 right ++ (bytes 2 size ++ (bytes 8 rows ++ bytes 4 waits))))

-- the bytes of a node, of any kind k of key
abbrev pub node_bytes : {K F : Type 0} → key.Ghosts K F → Node K → List ℕ
node_bytes k v =
    head_bytes v.mark v.left v.right v.size v.rows v.waits ++ (k.body v.low ++ k.body v.high)

-- the node of a row of bytes
abbrev pub node_of : {K F : Type 0} → key.Ghosts K F → List ℕ → Node K
node_of k bs = record {
  mark = slice_index bs 0;
  left = number 2 1 bs;
  right = number 2 3 bs;
  size = number 2 5 bs;
  rows = number 8 7 bs;
  waits = number 4 15 bs;
  low = k.unbody (take k.wide (drop 19 bs));
  high = k.unbody (take k.wide (drop (19 + k.wide) bs));
}

-- whether a row of bytes is as long as a node
abbrev pub node_long : {K F : Type 0} → key.Ghosts K F → List ℕ → Bool
node_long k bs = length bs == node_width k.wide

-- what unpacking answers: the node, if the row is as long as one
abbrev pub unpacked : {K F : Type 0} → key.Ghosts K F → List ℕ → Option (Node K)
unpacked k bs = cond (node_long k bs) (Some (node_of k bs)) None

-- the node can be read back from its bytes: packing promises it of every node that code can hold
abbrev pub Packs : {K F : Type 0} → key.Ghosts K F → Node K → Type 0
Packs k v = unpacked k (node_bytes k v) ≡ Some v

-- what packing answers of a row, and what it leaves there: the node's bytes, if the row is as long as a node
abbrev pub pack_answer : {K F : Type 0} → key.Ghosts K F → List ℕ → Option (Unit {0})
pack_answer k bs = cond (node_long k bs) (Some tt) None

abbrev pub packed_over : {K F : Type 0} → key.Ghosts K F → Node K → List ℕ → List ℕ
packed_over k v bs = cond (node_long k bs) (node_bytes k v) bs

-- a number, if 64 bits hold it
abbrev pub addressable : ℕ → Option ℕ
addressable m = cond (nat_lt m 18446744073709551616) (Some m) None
