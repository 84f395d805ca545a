-- What is proved of drafts and trees, as statements for contracts.
use Rattle.std.specs.Prelude.{◌≡◌, ℕ, ◌+◌, ◌<◌, ◌≤◌, false, List, [], ◌∷◌, Option, Ok}
use Rattle.store.specs.declared.node.Region.{Region}
use Rattle.store.specs.Cells.{Cell, cell_at, readable}
use Rattle.store.specs.Nodes.{region_of}
use Rattle.trees.specs.Trees.{Tree, leaf, node, count, height}
use Rattle.trees.specs.Paths.{In, Distinct}
use Rattle.trees.specs.Edits.{Frame, labels, plug, standing, least, rebuilt, dropped, parted as parted_tree}
use Rattle.trees.specs.Rotations.{Label, new, balance}
use Rattle.drafts.specs.declared.link.Numbered.{Numbered}
use Rattle.drafts.specs.Grown.{Grown, kept, Seen, seen, tree, weight, heavy_side, balanced}
use Rattle.walks.specs.Walks.{walked, merged, parted}
use Rattle.runs.specs.States.{member, Spells}
use Rattle.lifting.specs.Lifts.{keeps, leaves, edge_length, least_label, end_of, Stands, Shows, Lifted, Treated, WalkLifted, BothSides}

-- a look at a grown tree that stands for a tree goes well and shows it as it is
pub record SeenWell {K : Type 0} (cs : List (Cell K)) (g : Grown K) (t : Tree Label (Region K)) : Type 0 where
  pub side : Seen K
  pub is : seen cs g ≡ Ok side
  pub same : tree side ≡ g
  pub shows : Shows cs side t

abbrev pub Seeing : Type 0 → Type 0
Seeing K = (cs : List (Cell K)) (g : Grown K) (t : Tree Label (Region K)) → Stands cs g t → SeenWell cs g t

-- what cells spell, each node kept
pub record KeptTree {K : Type 0} (cs : List (Cell K)) (link : ℕ) (t : Tree ℕ (Region K)) : Type 0 where
  pub stands : Stands cs (kept link) (standing t)
  pub same_count : count (standing t) ≡ count t
  pub same_height : height (standing t) ≡ height t

-- a link leads to a node of the pool, or is 0 where there is none
abbrev pub LinkTo : {L R : Type 0} → Tree L R → ℕ → Type 0
LinkTo leaf n = n ≡ 0
LinkTo (node o l x r) n = 32 < n

-- A node that stands, as it was read: its region and its sides, which its links lead to; and if it leaves, what it kept is counted.
pub record ReadParts {K : Type 0} (cs : List (Cell K)) (p : Numbered K) (o : Label) (l : Tree Label (Region K)) (x : Region K) (r : Tree Label (Region K)) : Type 0 where
  pub region : region_of p.node ≡ x
  pub left : Stands cs (kept p.node.left) l
  pub right : Stands cs (kept p.node.right) r
  pub left_link : LinkTo l p.node.left
  pub right_link : LinkTo r p.node.right
  pub counted : (j : ℕ) → leaves j (p ∷ []) + (keeps j l + keeps j r) ≡ keeps j (node o l x r)

abbrev pub Reading : Type 0 → Type 0
Reading K =
    (cs : List (Cell K)) (p : Numbered K) (o : Label) (l : Tree Label (Region K)) (x : Region K) (r : Tree Label (Region K)) →
    Stands cs (kept p.number) (node o l x r) → cell_at cs p.number ≡ readable p.node → ReadParts cs p o l x r

-- no node of a tree is pending
abbrev pub NonePending : {R : Type 0} → List ℕ → Tree ℕ R → Type 0
NonePending pending t = (n : ℕ) → In n t → member n pending ≡ false

-- where no number is there twice, what is under a path has no node of the path
abbrev pub OffPath : Type 0 → Type 0
OffPath R = (fs : List (Frame ℕ R)) (t : Tree ℕ R) → Distinct (plug fs t) → NonePending (labels fs) t

abbrev pub SpelledStands : Type 0 → Type 0
SpelledStands K =
    (cs : List (Cell K)) (pending : List ℕ) (link : ℕ) (t : Tree ℕ (Region K)) → Spells cs pending link t → NonePending pending t → KeptTree cs link t

-- THE BALANCE RULE over two sides as they were seen, with fewer than so many nodes in all: a size has 16 bits

module _ (K : Type 0) where
  -- a new node over them, balanced
  abbrev pub BalanceLifts : ℕ → Type 0
  BalanceLifts most =
      (cs : List (Cell K)) (gone : List (Numbered K)) (x : Region K) (l r : Seen K) (tl tr : Tree Label (Region K)) → Shows cs l tl → Shows cs r tr →
      count tl + count tr < most →
      Lifted cs (λ n. leaves n gone + (keeps n tl + keeps n tr)) gone (balanced cs gone x l r) (balance new tl x tr)

  -- a node that has them: it stays where neither is too heavy, and is rotated where one is
  abbrev pub RotationLifts : ℕ → Type 0
  RotationLifts most =
      (cs : List (Cell K)) (gone : List (Numbered K)) (o : Label) (x : Region K) (l r : Seen K) (tl tr : Tree Label (Region K)) → Shows cs l tl →
      Shows cs r tr → count tl + count tr < most →
      Treated cs (λ n. leaves n gone + (keeps n tl + keeps n tr)) gone o x l r tl tr (balance o tl x tr) (heavy_side (weight l) (weight r))

  -- THE WALK down the left edge of a side, for either end
  abbrev pub WalkLifts : Type 0
  WalkLifts =
      (cs : List (Cell K)) (k : ℕ) (e : Option (Region K)) (gone : List (Numbered K)) (n : ℕ) (o : Label) (a : Tree Label (Region K)) (x : Region K)
      (b : Tree Label (Region K)) → Stands cs (kept n) (node o a x b) → edge_length a ≤ k → count (node o a x b) < 65535 →
      WalkLifted cs (λ j. leaves j gone + keeps j (node o a x b)) gone (walked k cs e gone n) (least_label a o) (least a x) (rebuilt (end_of e) a x b)

  -- DROP AND SPLIT at a node as it was read

  abbrev pub MergedLifts : Type 0
  MergedLifts =
      (cs : List (Cell K)) (p : Numbered K) (t : Tree Label (Region K)) → Stands cs (kept p.number) t → cell_at cs p.number ≡ readable p.node →
      BothSides t → height t ≤ 27 → count t < 65535 → Lifted cs (λ j. keeps j t) [] (merged cs p) (dropped t)

  abbrev pub PartedLifts : Type 0
  PartedLifts =
      (cs : List (Cell K)) (p : Numbered K) (o : Label) (l : Tree Label (Region K)) (x : Region K) (r : Tree Label (Region K))
      (lower upper : Region K → Region K) → Stands cs (kept p.number) (node o l x r) → cell_at cs p.number ≡ readable p.node →
      height (node o l x r) ≤ 27 → count (node o l x r) < 65535 →
      Lifted cs (λ j. keeps j (node o l x r)) [] (parted cs p (lower x) (upper x)) (parted_tree lower upper (node o l x r))
