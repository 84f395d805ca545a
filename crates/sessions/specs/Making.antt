-- The making of a catalogue, and the counts of its pool: nodes 1 to 32 are the seats of sessions 0 to 31, the others are the pool.
use Rattle.std.specs.Prelude.{ℕ, ◌+◌, Bool, cond, ◌&&◌, List, [], ◌∷◌, drop, Some, Ok, Err, Result, ◌==◌, nat_le}
use Rattle.sessions.specs.declared.fault.MakeFault.{MakeFault}
use Rattle.sessions.specs.declared.fault.MakeFault.TheVariants.{Size}
use Rattle.store.specs.Cells.{Cell, mark_of}
use Rattle.sessions.specs.declared.pool.Counts.{Counts}
use Rattle.store.specs.Nodes.{plain}
use Rattle.sessions.specs.Writings.{Writing, nothing_written}

-- whether a catalogue can be made of N nodes
abbrev pub can_make : ℕ → Bool
can_make N = nat_le 160 N && nat_le N 4096

-- what the making of N nodes answers
abbrev pub make_answer : ℕ → Result (Unit {0}) MakeFault
make_answer N = cond (can_make N) (Ok tt) (Err (Size N))

-- the mark of node n at the making: a seat or free
abbrev pub made_mark : ℕ → ℕ
made_mark n = cond (nat_le n 32) 3 0

-- every node is written, with filler keys and zeros besides its mark
abbrev pub every_node : {K : Type 0} → K → Writing K
every_node filler n = Some (plain (made_mark n) filler filler)

-- what the making writes: every node, or nothing where N does not fit
abbrev pub making : {K : Type 0} → K → ℕ → Writing K
making filler N = cond (can_make N) (every_node filler) nothing_written

-- the nodes of the pool
abbrev pub pool : {K : Type 0} → List (Cell K) → List (Cell K)
pool cs = drop 32 cs

-- how many cells have mark m
abbrev pub marked : {K : Type 0} → ℕ → List (Cell K) → ℕ
marked m [] = 0
marked m (c ∷ cs) = cond (mark_of c == m) 1 0 + marked m cs

-- live, waiting and free: the nodes of the pool with marks 1, 2 and 0
abbrev pub pool_counts : {K : Type 0} → List (Cell K) → Counts
pool_counts cs = record { live = marked 1 (pool cs); waiting = marked 2 (pool cs); free = marked 0 (pool cs) }
