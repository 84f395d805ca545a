-- States of a catalogue with its memory: the cells of the store, the root link, the pending nodes, the rows of the sessions.
use Rattle.std.specs.Prelude.{◌≡◌, ℕ, suc, ◌+◌, ◌-◌, ◌<◌, ◌≤◌, Bool, false, cond, ◌||◌, ◌⊎◌, List, [], ◌∷◌, ◌++◌, length, drop, replicate, ◌==◌, slice_index_or}
use Rattle.store.specs.declared.node.Node.{Node}
use Rattle.store.specs.Cells.{Cell, shut, readable, mark_of, cell_at}
use Rattle.trees.specs.Trees.{Tree, leaf, node, count}
use Rattle.trees.specs.Edits.{Place, labels, whole}
use Rattle.store.specs.Nodes.{region_of, plain}
use Rattle.store.specs.declared.node.Region.{Region}

-- ROWS: what a catalogue keeps of each of its 32 sessions

pub data Stage : Type 0 where
  closed going answered : Stage

pub record Row : Type 0 where
  pub stage : Stage
  pub place : ℕ
  pub steps : ℕ

abbrev pub row : Stage → ℕ → ℕ → Row
row g p n = record { stage = g; place = p; steps = n }

abbrev pub as_closed : Row → Row
as_closed w = row closed w.place w.steps

-- STATES. What a memory is is left open: for the code it is a store, and what it means is the store's cells.

pub record State (M : Type 0) : Type 0 where
  pub memory : M
  pub root : ℕ
  pub pending : List ℕ
  pub rows : List Row

-- the state as it is seen through what a memory means
abbrev pub meant : {M C : Type 0} → (M → C) → State M → State C
meant f z = record { memory = f z.memory; root = z.root; pending = z.pending; rows = z.rows }

abbrev pub row_of : {M : Type 0} → State M → ℕ → Row
row_of z s = slice_index_or z.rows s (row closed 0 0)

abbrev pub Cells : Type 0 → Type 0
Cells K = List (Cell K)

abbrev pub member : ℕ → List ℕ → Bool
member n [] = false
member n (m ∷ ms) = n == m || member n ms

-- NODES

-- the node v with this size, waiting for the sessions w
abbrev pub waiting : {K : Type 0} → Node K → ℕ → ℕ → Node K
waiting v size w = record { mark = 2; left = v.left; right = v.right; size = size; rows = v.rows; waits = w; low = v.low; high = v.high }

module _ {K : Type 0} where
  -- THE POOL AND ITS MARKS: nodes 1 to 32 are the seats of the sessions 0 to 31, the others the pool

  abbrev pub pool : Cells K → ℕ
  pool cs = length cs - 32

  pub record InPool (cs : Cells K) (n : ℕ) : Type 0 where
    pub past_seats : 32 < n
    pub inside : n ≤ length cs

  abbrev pub with_mark : ℕ → Cells K → ℕ
  with_mark m [] = 0
  with_mark m (c ∷ cs) = cond (mark_of c == m) 1 0 + with_mark m cs

  -- how many pool nodes are live, waiting and free: marks 1, 2 and 0
  abbrev pub live_nodes : Cells K → ℕ
  live_nodes cs = with_mark 1 (drop 32 cs)

  abbrev pub waiting_nodes : Cells K → ℕ
  waiting_nodes cs = with_mark 2 (drop 32 cs)

  abbrev pub free_nodes : Cells K → ℕ
  free_nodes cs = with_mark 0 (drop 32 cs)

  -- a node that may be taken
  pub record Free (cs : Cells K) (n : ℕ) : Type 0 where
    pub in_pool : InPool cs n
    pub mark_zero : mark_of (cell_at cs n) ≡ 0

  -- IN THE TREE: links lead to the node q from the link l, and so from the root link

  pub data Leads (cs : Cells K) (q : ℕ) : ℕ → Type 0 where
    there : 1 ≤ q → Leads cs q q
    by_left : (n : ℕ) (v : Node K) → 1 ≤ n → cell_at cs n ≡ readable v → Leads cs q v.left → Leads cs q n
    by_right : (n : ℕ) (v : Node K) → 1 ≤ n → cell_at cs n ≡ readable v → Leads cs q v.right → Leads cs q n

  abbrev pub InTree : State (Cells K) → ℕ → Type 0
  InTree z q = Leads z.memory q z.root

  -- THE TREE THAT CELLS SPELL from a link on: readable pool nodes of mark 1 that wait for none, with the tree's regions and links.
  -- The size of each that is not pending is the number of nodes that it is the top of, counted.

  pub record NodeInTree (cs : Cells K) (pending : List ℕ) (n : ℕ) (x : Region K) (many : ℕ) (v : Node K) : Type 0 where
    pub in_pool : InPool cs n
    pub can_be_read : cell_at cs n ≡ readable v
    pub mark_one : v.mark ≡ 1
    pub the_region : region_of v ≡ x
    pub waits_for_none : v.waits ≡ 0
    pub counted : member n pending ≡ false → v.size ≡ many

  abbrev pub Spells : Cells K → List ℕ → ℕ → Tree ℕ (Region K) → Type 0
  Spells cs pending link leaf = link ≡ 0
  Spells cs pending link (node n l x r) =
      (v : Node K) × (link ≡ n) × NodeInTree cs pending n x (suc (count l + count r)) v ×
      Spells cs pending v.left l × Spells cs pending v.right r

  -- the tree of a state, with the link below its pending nodes: these are the nodes above that link, the lowest first;
  -- at rest the link is the root link
  pub record TreeAt (z : State (Cells K)) (p : Place ℕ (Region K)) : Type 0 where
    pub spelled : Spells z.memory z.pending z.root (whole p)
    pub path_pending : z.pending ≡ labels p.above

  -- THE MAKING writes every node: seats with mark 3 and a pool with mark 0, filler keys, zeros elsewhere

  -- what it leaves of a pool node; the store may close it
  abbrev pub Fresh : K → Cell K → Type 0
  Fresh filler c = (c ≡ readable (plain 0 filler filler)) ⊎ (c ≡ shut 0)

  abbrev pub AllFresh : K → Cells K → Type 0
  AllFresh filler [] = Unit {0}
  AllFresh filler (c ∷ cs) = Fresh filler c × AllFresh filler cs

  abbrev pub fresh_seats : K → Cells K
  fresh_seats filler = replicate 32 (readable (plain 3 filler filler))

  pub record JustMade (filler : K) (z : State (Cells K)) : Type 0 where
    pub pool_cells : Cells K
    pub every_node : z.memory ≡ fresh_seats filler ++ pool_cells
    pub all_free : AllFresh filler pool_cells
    pub no_tree : z.root ≡ 0
    pub at_rest : z.pending ≡ []
    pub all_closed : z.rows ≡ replicate 32 (row closed 0 0)
