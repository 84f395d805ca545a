-- What an edit writes: a tree that was built, one link, and the nodes that leave.
use Rattle.std.specs.Prelude.{◌≡◌, ℕ, ◌+◌, false, List, [], ◌∷◌, ◌++◌, map, Some, None, Option}
use Rattle.store.specs.declared.node.Node.{Node}
use Rattle.store.specs.Faults.{outside}
use Rattle.store.specs.Nodes.{waiting}
use Rattle.store.specs.Cells.{Cell, Written}
use Rattle.store.specs.declared.node.Region.{Region}
use Rattle.drafts.specs.declared.link.Numbered.{Numbered}
use Rattle.drafts.specs.declared.link.Lean.{Lean}
use Rattle.drafts.specs.declared.link.Lean.TheVariants.{Right, Left}
use Rattle.drafts.specs.Grown.{Grown, kept, built}
use Rattle.search.specs.Firsts.{first, later}
use Rattle.commits.specs.declared.writes.Joint.{Joint}

-- each of some numbers is that of a node of the store
abbrev pub AllInside : ℕ → List ℕ → Type 0
AllInside N [] = Unit {0}
AllInside N (n ∷ ns) = (outside n N ≡ false) × AllInside N ns

-- a tree put into the store: the number of its top, the writes, and the numbers that are left
pub record Placing (K : Type 0) : Type 0 where
  pub top : ℕ
  pub writes : List (Numbered K)
  pub rest : List ℕ

module _ {K : Type 0} where
  -- the cells after some writes, made one after another: each replaces its own cell alone
  unfoldable pub Writes : List (Cell K) → List (Numbered K) → List (Cell K) → Type 0
  Writes cs [] ds = ds ≡ cs
  Writes cs (w ∷ ws) ds = (mid : List (Cell K)) × Written cs w.number w.node mid × Writes mid ws ds

  -- a new node: in the tree, with no waits
  abbrev pub new_node : ℕ → Region K → ℕ → ℕ → Node K
  new_node s x a b = record { mark = 1; left = a; right = b; size = s; rows = x.rows; waits = 0; low = x.low; high = x.high }

  -- how many new nodes a tree has
  unfoldable pub news : Grown K → ℕ
  news (kept n) = 0
  news (built s x l r) = news l + news r + 1

  abbrev pub over : ℕ → Region K → Placing K → Placing K → Placing K
  over s x a b = record {
    top = first b.rest;
    writes = a.writes ++ (b.writes ++ (record { number = first b.rest; node = new_node s x a.top b.top } ∷ []));
    rest = later b.rest;
  }

  -- each new node gets the next of some numbers, its left side first, then its right side, then itself
  unfoldable pub placed : Grown K → List ℕ → Placing K
  placed (kept m) ns = record { top = m; writes = []; rest = ns }
  placed (built s x l r) ns = over s x (placed l ns) (placed r (placed l ns).rest)

  abbrev pub with_link : Lean → ℕ → Node K → Node K
  with_link Left n v = record { mark = v.mark; left = n; right = v.right; size = v.size; rows = v.rows; waits = v.waits; low = v.low; high = v.high }
  with_link Right n v = record { mark = v.mark; left = v.left; right = n; size = v.size; rows = v.rows; waits = v.waits; low = v.low; high = v.high }

  -- the one link that changes: that of a node, or the root link
  abbrev pub hung : Option (Joint K) → ℕ → List (Numbered K)
  hung None n = []
  hung (Some j) n = record { number = j.above.number; node = with_link j.side n j.above.node } ∷ []

  abbrev pub root_after : Option (Joint K) → ℕ → ℕ → ℕ
  root_after None n root = n
  root_after (Some j) n root = root

  -- a node that leaves waits for the open sessions; with none it is free
  abbrev pub leaving : ℕ → Node K → Node K
  leaving sessions v = waiting sessions v

  abbrev pub left_behind : ℕ → Numbered K → Numbered K
  left_behind sessions p = record { number = p.number; node = leaving sessions p.node }

  -- all writes of an edit, in their order: the new nodes, the one link, the nodes that leave
  unfoldable pub committed : Option (Joint K) → Placing K → ℕ → List (Numbered K) → List (Numbered K)
  committed j p sessions gone = p.writes ++ (hung j p.top ++ map (left_behind sessions) gone)

  -- the nodes are nodes of the store
  abbrev pub GoneInside : ℕ → List (Numbered K) → Type 0
  GoneInside N [] = Unit {0}
  GoneInside N (p ∷ ps) = (outside p.number N ≡ false) × GoneInside N ps

  abbrev pub JointInside : ℕ → Option (Joint K) → Type 0
  JointInside N None = Unit {0}
  JointInside N (Some j) = outside j.above.number N ≡ false
