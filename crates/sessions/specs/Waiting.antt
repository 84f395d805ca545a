-- Nodes that wait for sessions: they have left the tree, and are free once no session that they wait for has its lookup.
use Rattle.std.specs.Prelude.{ℕ, ◌+◌, ◌/◌, ◌%◌, ◌^◌, Bool, cond, ◌&&◌, List, [], ◌∷◌, drop, Some, None, Ok, Err, Option, Result, ◌==◌, bit_xor, nat_lt}
use Rattle.store.specs.declared.node.Node.{Node}
use Rattle.store.specs.declared.fault.StoreFault.{StoreFault}
use Rattle.store.specs.declared.fault.Function.TheVariants.{Read}
use Rattle.store.specs.declared.fault.Cause.TheVariants.{Closed}
use Rattle.store.specs.Nodes
use Rattle.store.specs.Faults.{fault_at}
use Rattle.store.specs.Cells.{Cell, shut, readable, cell_at, mark_answer, read_answer}
use Rattle.sessions.specs.Writings.{Writing}

-- whether bit s is set
abbrev pub bit : ℕ → ℕ → Bool
bit s w = w / 2 ^ s % 2 == 1

-- the same without bit s, which was set
abbrev pub without_bit : ℕ → ℕ → ℕ
without_bit s w = bit_xor w (2 ^ s)

-- the mark of a node that waits for the sessions w: free where there are none
abbrev pub waiting_mark : ℕ → ℕ
waiting_mark w = Nodes.waiting_mark w

-- the node v, waiting for the sessions w
abbrev pub waiting_for : {K : Type 0} → ℕ → Node K → Node K
waiting_for w v = Nodes.waiting w v

-- whether a node waits for session s
abbrev pub waits_for : {K : Type 0} → ℕ → Node K → Bool
waits_for s v = v.mark == 2 && bit s v.waits

-- what is written to a node when session s is released: a node that waits for it waits for the others
abbrev pub released : {K : Type 0} → ℕ → Cell K → Option (Node K)
released s (shut m) = None
released s (readable v) = cond (waits_for s v) (Some (waiting_for (without_bit s v.waits) v)) None

-- the release of session s, over the pool: the nodes above 32
abbrev pub release : {K : Type 0} → ℕ → List (Cell K) → Writing K
release s cs n = cond (nat_lt 32 n) (released s (cell_at cs n)) None

abbrev pub waiting_read : {K : Type 0} → Result (Node K) StoreFault → Result (Option (Node K)) StoreFault
waiting_read (Err e) = Err e
waiting_read (Ok v) = Ok (Some v)

abbrev pub waiting_marked : {K : Type 0} → Result ℕ StoreFault → Result (Node K) StoreFault → Result (Option (Node K)) StoreFault
waiting_marked (Err e) node = Err e
waiting_marked (Ok m) node = cond (m == 2) (waiting_read node) (Ok None)

-- node n, read where its mark says that it waits
unfoldable pub waiting_at : {K : Type 0} → List (Cell K) → ℕ → Result (Option (Node K)) StoreFault
waiting_at cs n = waiting_marked (mark_answer cs n) (read_answer cs n)

-- the first closed cell with mark 2: node n, where its cell c is one, else the first of the rest
abbrev pub closed_at : {K : Type 0} → ℕ → Cell K → Option ℕ → Option ℕ
closed_at n (shut m) rest = cond (m == 2) (Some n) rest
closed_at n (readable v) rest = rest

abbrev pub first_closed : {K : Type 0} → ℕ → List (Cell K) → Option ℕ
first_closed n [] = None
first_closed n (c ∷ cs) = closed_at n c (first_closed (n + 1) cs)

-- the first waiting node of the pool that cannot be read
unfoldable pub closed_waiting : {K : Type 0} → List (Cell K) → Option ℕ
closed_waiting cs = first_closed 33 (drop 32 cs)

-- what reading every waiting node answers
abbrev pub all_read : Option ℕ → Result (Unit {0}) StoreFault
all_read None = Ok tt
all_read (Some n) = Err (fault_at Read n Closed)
