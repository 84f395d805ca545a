-- What advance makes of the lowest pending node, as the tree functions say it, and where that node hangs.
use Rattle.std.specs.Prelude.{◌≡◌, ℕ, suc, ◌+◌, ◌<◌, ◌≤◌, List, [], ◌∷◌, reverse, Some, None, Ok, Err, Option, Result}
use Rattle.store.specs.declared.node.Node.{Node}
use Rattle.store.specs.declared.node.Region.{Region}
use Rattle.store.specs.Cells.{Cell, cell_at, readable}
use Rattle.store.specs.Nodes.{region_of}
use Rattle.trees.specs.Trees.{Side, Tree, node, pick, count}
use Rattle.trees.specs.Rotations.{Label, kept as stays}
use Rattle.trees.specs.Paths.{Distinct}
use Rattle.trees.specs.Edits.{Frame, frame, labels, plug, standing, settled}
use Rattle.drafts.specs.declared.link.Lean.{Lean}
use Rattle.drafts.specs.Grown.{weight, heavy_side, rotated}
use Rattle.search.specs.Frees.{free_count}
use Rattle.commits.specs.declared.writes.Joint.{Joint}
use Rattle.edits.specs.declared.fault.Refusal.{Refusal}
use Rattle.edits.specs.declared.fault.Refusal.TheVariants.{Crowded}
use Rattle.edits.specs.Calls.{Sized, Change, resized, sized, joint_at, turned_change, advanced}
use Rattle.runs.specs.States.{Spells}
use Rattle.lifting.specs.Lifts.{keeps, Lifted}
use Rattle.lifting.specs.Ways.{lean_of}

module _ {K : Type 0} where
  -- the link at the end of a path: the root link, or that of the lowest node on the side on which the path goes on
  abbrev pub Hangs : List (Cell K) → List (Frame ℕ (Region K)) → Option (Joint K) → Type 0
  Hangs cs [] j = j ≡ None
  Hangs cs (frame s m y u ∷ fs) j = (v : Node K) × (cell_at cs m ≡ readable v) × (j ≡ Some (record { above = record { number = m; node = v }; side = lean_of s }))

  pub record Joined (cs : List (Cell K)) (fs : List (Frame ℕ (Region K))) (n : ℕ) : Type 0 where
    pub joint : Option (Joint K)
    pub is : joint_at cs (reverse (labels fs)) n ≡ Ok joint
    pub hangs : Hangs cs fs joint

-- the link to a node of the tree is found from the nodes above it
abbrev pub JointFound : Type 0 → Type 0
JointFound K =
    (cs : List (Cell K)) (pending : List ℕ) (root : ℕ) (fs : List (Frame ℕ (Region K))) (n : ℕ) (l : Tree ℕ (Region K)) (x : Region K)
    (r : Tree ℕ (Region K)) → Spells cs pending root (plug fs (node n l x r)) → Distinct (plug fs (node n l x r)) → Joined cs fs n

-- ADVANCE at the lowest pending node n, with its region x, the side s on which the change was made and which is t now, and u beside it

-- what is told of it, for a root link, the open sessions and the numbers for new nodes
abbrev pub Told : Type 0 → Type 0
Told K = ℕ → ℕ → List ℕ → Result (Change K) Refusal

module _ {K : Type 0} where
  -- By the rule of balance the node comes to the tree `made`: it is written with its size, or it is rotated; a rotation needs three free nodes.
  abbrev pub ByRule : List (Cell K) → List ℕ → ℕ → (tl : Tree Label (Region K)) → Region K → (tr made : Tree Label (Region K)) → Sized K → Option (Joint K) → Told K → Option Lean → Type 0
  ByRule cs path n tl x tr made w j told None =
      (made ≡ node (stays n) tl x tr) ×
      ((root sessions : ℕ) (ns : List ℕ) → told root sessions ns ≡ Ok (record { path = path; root = root; writes = w.node ∷ [] }))
  ByRule cs path n tl x tr made w j told (Some s) =
      (l : Lifted cs (λ i. keeps i (node (stays n) tl x tr)) (w.node ∷ []) (rotated cs (w.node ∷ []) s x w.left w.right) made) ×
      ((root sessions : ℕ) (ns : List ℕ) → free_count cs < 3 → told root sessions ns ≡ Err Crowded) ×
      ((root sessions : ℕ) (ns : List ℕ) → 3 ≤ free_count cs →
      told root sessions ns ≡ Ok (turned_change path root sessions ns (record { built = l.made; joint = j })))

  pub record Advances (cs : List (Cell K)) (s : Side) (n : ℕ) (x : Region K) (u t : Tree ℕ (Region K)) (fs : List (Frame ℕ (Region K))) : Type 0 where
    -- the node as it was, and with its size and its sides
    pub content : Node K
    pub can_be_read : cell_at cs n ≡ readable content
    pub the_region : region_of content ≡ x
    pub with_size : Sized K
    pub is : sized cs n ≡ Ok with_size
    pub written : with_size.node ≡ record { number = n; node = resized (suc (count t + count u)) content }
    -- where it hangs
    pub joined : Joined cs fs n
    pub rule :
        ByRule cs (reverse (labels fs)) n (pick s (standing t) (standing u)) x (pick s (standing u) (standing t))
        (settled (frame s (stays n) x (standing u)) (standing t)) with_size joined.joint (λ root sessions ns. advanced cs (reverse (n ∷ labels fs)) root sessions ns)
        (heavy_side (weight with_size.left) (weight with_size.right))

-- over sides with fewer than so many nodes in all: a size has 16 bits
abbrev pub AdvanceLifts : Type 0 → ℕ → Type 0
AdvanceLifts K most =
    (cs : List (Cell K)) (root : ℕ) (s : Side) (n : ℕ) (x : Region K) (u t : Tree ℕ (Region K)) (fs : List (Frame ℕ (Region K))) →
    Spells cs (n ∷ labels fs) root (plug (frame s n x u ∷ fs) t) → Distinct (plug (frame s n x u ∷ fs) t) → count t + count u < most →
    Advances cs s n x u t fs
