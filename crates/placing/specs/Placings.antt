-- What is said of the memory after some writes.
use Rattle.std.specs.Prelude.{◌≡◌, ℕ, ◌+◌, ◌≤◌, false, T, ◌⊎◌, List, [], ◌∷◌, length, Some, None, Option, ◌≢◌, nat_eq}
use Rattle.store.specs.declared.node.Node.{Node}
use Rattle.store.specs.declared.node.Region.{Region}
use Rattle.store.specs.Faults.{outside}
use Rattle.store.specs.Cells.{shut, readable, cell_at, mark_of}
use Rattle.store.specs.Fits.{ShutFree}
use Rattle.trees.specs.Trees.{Side, left, right, Tree, count}
use Rattle.trees.specs.Rotations.{Label}
use Rattle.trees.specs.Edits.{Frame, frame, labels, plug, standing}
use Rattle.trees.specs.Paths.{times, inside, In, Distinct, MadeAs, new_at}
use Rattle.drafts.specs.declared.link.Numbered.{Numbered}
use Rattle.drafts.specs.declared.link.Lean.{Lean}
use Rattle.drafts.specs.declared.link.Lean.TheVariants.{Right, Left}
use Rattle.drafts.specs.Grown.{Grown}
use Rattle.commits.specs.declared.writes.Joint.{Joint}
use Rattle.commits.specs.Commits.{leaving}
use Rattle.runs.specs.States.{Cells, Free, Spells, member}
use Rattle.runs.specs.Teeth.{Among}
use Rattle.lifting.specs.Lifts.{leaves, leaves as written, keeps, Stands}

-- the side of a node, as its link is named
abbrev pub lean_of : Side → Lean
lean_of left = Left
lean_of right = Right

module _ {K : Type 0} where
  -- w is the last of some writes to its node
  abbrev pub LastWrite : Numbered K → List (Numbered K) → Type 0
  LastWrite w [] = ⊥
  LastWrite w (v ∷ vs) = ((v ≡ w) × (written w.number vs ≡ 0)) ⊎ LastWrite w vs

  -- the cells ds after the writes ws: a cell that none wrote is as it was, and the others hold what was written last
  pub record ReadBack (cs : Cells K) (ws : List (Numbered K)) (ds : Cells K) : Type 0 where
    pub as_many : length ds ≡ length cs
    pub others : (n : ℕ) → 1 ≤ n → written n ws ≡ 0 → cell_at ds n ≡ cell_at cs n
    pub last :
        (w : Numbered K) → LastWrite w ws → outside w.number (length cs) ≡ false →
        (cell_at ds w.number ≡ readable w.node) ⊎ (cell_at ds w.number ≡ shut w.node.mark)
    pub last_readable :
        (w : Numbered K) → LastWrite w ws → outside w.number (length cs) ≡ false → ShutFree ds → (w.node.mark ≢ 0) →
        cell_at ds w.number ≡ readable w.node

  -- Memory spells the tree that was made, from the link n on: new nodes are at numbers of ns that were free, no two at the same;
  -- and every other cell is as it was.
  pub record PutDown (cs ds : Cells K) (ns : List ℕ) (n : ℕ) (t : Tree Label (Region K)) : Type 0 where
    pub tree : Tree ℕ (Region K)
    pub spelled : Spells ds [] n tree
    pub made : MadeAs (Free cs) t tree
    pub once : (m : ℕ) → new_at m t tree ≤ 1
    pub chosen : (m : ℕ) → new_at m t tree ≤ times (nat_eq m) ns
    pub as_many : length ds ≡ length cs
    pub others : (m : ℕ) → new_at m t tree ≡ 0 → cell_at ds m ≡ cell_at cs m

  -- ONE LINK CHANGED

  -- where a tree is hung: at the root link, or at the link of the lowest node above it, that node as it can be read
  abbrev pub Joins : Cells K → List (Frame ℕ (Region K)) → Option (Joint K) → Type 0
  Joins cs [] None = Unit {0}
  Joins cs [] (Some j) = ⊥
  Joins cs (frame s n x u ∷ fs) None = ⊥
  Joins cs (frame s n x u ∷ fs) (Some j) = (j.above.number ≡ n) × (j.side ≡ lean_of s) × (cell_at cs n ≡ readable j.above.node)

  -- Before a commit: the tree in memory, with fs above the link that is to change and s under it. The nodes that are pending are
  -- above that link or under it. What takes the place of s stands for t; the nodes that t keeps and those that leave are the nodes of s.
  pub record Drafted (cs : Cells K) (pending : List ℕ) (root : ℕ) (fs : List (Frame ℕ (Region K))) (s : Tree ℕ (Region K)) (g : Grown K) (t : Tree Label (Region K)) (gone : List (Numbered K)) : Type 0 where
    pub spelled : Spells cs pending root (plug fs s)
    pub distinct : Distinct (plug fs s)
    pub pending_where : (n : ℕ) → T (member n pending) → In n s ⊎ T (member n (labels fs))
    pub stands : Stands cs g t
    pub same : (n : ℕ) → leaves n gone + keeps n t ≡ inside (nat_eq n) s

  -- After it: the nodes above the link are pending, and under it stands what was drafted, its new nodes at numbers that were free.
  pub record CommittedWell (cs ds : Cells K) (root sessions : ℕ) (fs : List (Frame ℕ (Region K))) (s : Tree ℕ (Region K)) (t : Tree Label (Region K)) (gone : List (Numbered K)) : Type 0 where
    pub tree : Tree ℕ (Region K)
    pub spelled : Spells ds (labels fs) root (plug fs tree)
    pub made : MadeAs (Free cs) t tree
    pub once : (n : ℕ) → new_at n t tree ≤ 1
    pub distinct : Distinct (plug fs tree)
    -- a pending node keeps its size
    pub size_kept :
        (n : ℕ) (v w : Node K) → T (member n (labels fs)) → cell_at cs n ≡ readable v → cell_at ds n ≡ readable w → w.size ≡ v.size
    -- the nodes that left are those that are in the tree no more; they wait for the open sessions, and with none are free
    pub left_tree : (p : Numbered K) → Among p gone → In p.number (plug fs s) × (inside (nat_eq p.number) (plug fs tree) ≡ 0)
    pub who_left : (n : ℕ) → In n (plug fs s) → inside (nat_eq n) (plug fs tree) ≡ 0 → (p : Numbered K) × Among p gone × (p.number ≡ n)
    pub left_waits :
        (p : Numbered K) → Among p gone → (sessions ≢ 0) → cell_at ds p.number ≡ readable (leaving sessions p.node)
    pub left_free : (p : Numbered K) → Among p gone → sessions ≡ 0 → mark_of (cell_at ds p.number) ≡ 0
    -- a node that was not in the tree and is not in it now
    pub others : (n : ℕ) → inside (nat_eq n) (plug fs s) ≡ 0 → inside (nat_eq n) (plug fs tree) ≡ 0 → cell_at ds n ≡ cell_at cs n
    pub seats : (n : ℕ) → n ≤ 32 → cell_at ds n ≡ cell_at cs n
    pub as_many : length ds ≡ length cs

  -- ONE SIZE SET

  abbrev pub with_size : ℕ → Node K → Node K
  with_size k v = record { mark = v.mark; left = v.left; right = v.right; size = k; rows = v.rows; waits = v.waits; low = v.low; high = v.high }

  -- The node n, the lowest that was pending, has its size set to that of the tree s of which it is the top, and is pending no more;
  -- every other cell is as it was. So it is as after a commit that keeps every node of s.
  pub record ResizedWell (cs ds : Cells K) (root n : ℕ) (v : Node K) (fs : List (Frame ℕ (Region K))) (s : Tree ℕ (Region K)) : Type 0 where
    pub spelled : Spells ds (labels fs) root (plug fs s)
    pub resized : cell_at ds n ≡ readable (with_size (count s) v)
    pub others : (m : ℕ) → (m ≢ n) → cell_at ds m ≡ cell_at cs m
    pub as_many : length ds ≡ length cs
    pub committed : (sessions : ℕ) → CommittedWell cs ds root sessions fs s (standing s) []
