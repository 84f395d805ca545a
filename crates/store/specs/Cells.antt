-- What a store means: a row of cells. A cell is a node that can be read, or a closed one, of which the mark alone counts.
use Rattle.std.specs.Prelude.{◌≡◌, ℕ, ◌-◌, cond, ◌⊎◌, List, map, length, Ok, Err, Result, ◌==◌, slice_index_or, slice_set}
use Rattle.store.specs.declared.node.Node.{Node}
use Rattle.store.specs.declared.fault.StoreFault.{StoreFault}
use Rattle.store.specs.declared.fault.Function.TheVariants.{Mark, Read, Write}
use Rattle.store.specs.declared.fault.Cause.TheVariants.{Closed}
use Rattle.store.specs.Faults.{fault_at, outside, inside_or}

pub data Cell (K : Type 0) : Type 0 where
  shut : ℕ → Cell K
  readable : Node K → Cell K

abbrev pub mark_of : {K : Type 0} → Cell K → ℕ
mark_of (shut m) = m
mark_of (readable v) = v.mark

-- the cell of node n
abbrev pub cell_at : {K : Type 0} → List (Cell K) → ℕ → Cell K
cell_at cs n = slice_index_or cs (n - 1) (shut 0)

-- count answers N
unfoldable pub count_answer : {K : Type 0} → List (Cell K) → ℕ
count_answer cs = length cs

-- mark answers the node's mark, whether the node is closed or not
unfoldable pub mark_answer : {K : Type 0} → List (Cell K) → ℕ → Result ℕ StoreFault
mark_answer cs n = inside_or Mark n (length cs) (Ok (mark_of (cell_at cs n)))

-- what a read of cell n shows
abbrev pub shown : {K : Type 0} → ℕ → Cell K → Result (Node K) StoreFault
shown n (shut m) = Err (fault_at Read n Closed)
shown n (readable v) = Ok v

-- read answers the node, and is refused at a closed one
unfoldable pub read_answer : {K : Type 0} → List (Cell K) → ℕ → Result (Node K) StoreFault
read_answer cs n = inside_or Read n (length cs) (shown n (cell_at cs n))

-- write is taken at every node, a closed one too
unfoldable pub write_answer : {K : Type 0} → List (Cell K) → ℕ → Result (Unit {0}) StoreFault
write_answer cs n = inside_or Write n (length cs) (Ok tt)

-- the cells with cell n replaced, every other as it was; all as they were where n is outside
abbrev pub replaced : {K : Type 0} → List (Cell K) → ℕ → Cell K → List (Cell K)
replaced cs n c = cond (outside n (length cs)) cs (slice_set cs (n - 1) c)

-- what the cells may be after v was written to node n: v can be read there, or the node is closed with v's mark;
-- which of the two is the store's own affair
unfoldable pub Written : {K : Type 0} → List (Cell K) → ℕ → Node K → List (Cell K) → Type 0
Written cs n v ds = (ds ≡ replaced cs n (readable v)) ⊎ (ds ≡ replaced cs n (shut v.mark))

-- the cells of a row of nodes none of which is closed
abbrev pub all_readable : {K : Type 0} → List (Node K) → List (Cell K)
all_readable vs = map readable vs

-- the cells of a store that closes all its nodes
abbrev pub all_shut : {K : Type 0} → List (Cell K) → List (Cell K)
all_shut cs = map (λ c. shut (mark_of c)) cs

-- a row of nodes after v was written to node n; as it was where n is outside
unfoldable pub nodes_after : {K : Type 0} → List (Node K) → ℕ → Node K → List (Node K)
nodes_after vs n v = cond (outside n (length vs)) vs (slice_set vs (n - 1) v)

-- what a guard makes of a cell below it: closed if it was or if its mark is 0
abbrev pub guard_cell : {K : Type 0} → Cell K → Cell K
guard_cell (shut m) = shut m
guard_cell (readable v) = cond (v.mark == 0) (shut 0) (readable v)

abbrev pub guarded : {K : Type 0} → List (Cell K) → List (Cell K)
guarded cs = map guard_cell cs
