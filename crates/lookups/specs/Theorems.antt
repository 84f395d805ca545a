-- What is proved of lookups, as statements for contracts.
use Rattle.std.specs.Prelude.{◌≡◌, ℕ, suc, ◌<◌, ◌≤◌, Bool, T, ◌⊎◌, List, [], ◌∷◌, ◌++◌, length, Option, nat_eq}
use Rattle.store.specs.declared.node.Region.{Region}
use Rattle.trees.specs.Regions.{gives}
use Rattle.trees.specs.Trees.{Turn, Tree, inorder, path, found, seek}
use Rattle.trees.specs.Edits.{Place, whole, Edit}
use Rattle.trees.specs.Paths.{times, Distinct}
use Rattle.trees.specs.Steps.{Stands, StepsWell}
use Rattle.runs.specs.Calls.{Kind, regions, Outcome}
use Rattle.runs.specs.States.{State, Cells, Row, pool, InPool, Spells, TreeAt}
use Rattle.runs.specs.Effects.{Steps}
use Rattle.lookups.specs.Ways.{Walk, KeptNode, Waits, HoldsOn, GoingAt, FoundAt, AfterStep}

-- A WALK THROUGH A TREE THAT CELLS SPELL is the search's path in it, and tells what the search finds; so it is from each node of the
-- path on; and no node is on the path twice.
pub record WalksDown {K : Type 0} (cs : Cells K) (turn : Region K → Turn) (link : ℕ) (t : Tree ℕ (Region K)) : Type 0 where
  pub from_top : Walk cs turn (found turn t) link (path turn t)
  pub from_node : (b : ℕ) (front rest : List ℕ) → path turn t ≡ front ++ (b ∷ rest) → Walk cs turn (found turn t) b (b ∷ rest)
  pub no_node_twice : Distinct t → (q : ℕ) → times (nat_eq q) (path turn t) ≤ 1

abbrev pub SpelledWalk : Type 0 → Type 0
SpelledWalk K =
    (cs : Cells K) (pending : List ℕ) (link : ℕ) (t : Tree ℕ (Region K)) (turn : Region K → Turn) → Spells cs pending link t →
    WalksDown cs turn link t

-- MOMENTS: o was given at a moment from `since` to `now`
pub record Given {R : Type 0} (gave : ℕ → Option R) (since now : ℕ) (o : Option R) : Type 0 where
  pub moment : ℕ
  pub not_before : since ≤ moment
  pub not_after : moment ≤ now
  pub given_then : gave moment ≡ o

module _ {K F : Type 0} (kd : Kind K F) where
  -- the state z at the moment `now`: its tree, which stands, and what the region set gives for the key k; `gave` says that of each moment
  pub record Moment (gave : ℕ → Option (Region K)) (now : ℕ) (k : K) (z : State (Cells K)) (p : Place ℕ (Region K)) : Type 0 where
    pub key_formed : (regions kd).Formed k
    pub tree : TreeAt z p
    pub stands : Stands (regions kd) p
    pub gives_now : gave now ≡ gives (regions kd) (inorder (whole p)) k

  -- a lookup of k that has been open since a moment and goes on now; `held` are the nodes that are held for its session
  abbrev pub Going : (ℕ → Bool) → (ℕ → Option (Region K)) → ℕ → ℕ → K → State (Cells K) → Place ℕ (Region K) → ℕ → List ℕ → Type 0
  Going held gave since now k z p = GoingAt (λ n. T (held n)) (Given gave since now) (seek (regions kd) k) z.memory (whole p)

  -- AN OPEN takes the root link, with nothing behind it
  abbrev pub Opens : Type 0
  Opens =
      (held : ℕ → Bool) (gave : ℕ → Option (Region K)) (now : ℕ) (k : K) (z : State (Cells K)) (p : Place ℕ (Region K)) →
      Moment gave now k z p → Going held gave now now k z p z.root []

  -- AN EDIT from the state z to the state y: nodes that leave the tree are held from then on
  abbrev pub EditHoldsOn : (ℕ → Bool) → (ℕ → Bool) → State (Cells K) → State (Cells K) → Place ℕ (Region K) → Place ℕ (Region K) → Type 0
  EditHoldsOn held held' z y p p' = HoldsOn (λ n. T (held n)) (λ n. T (held' n)) z.memory y.memory (whole p) (whole p')

  abbrev pub EditCarries : Type 0
  EditCarries =
      (held held' : ℕ → Bool) (gave : ℕ → Option (Region K)) (since now : ℕ) (k : K) (e : Edit K (Region K)) (z y : State (Cells K)) (p p' : Place ℕ (Region K))
      (link : ℕ) (seen : List ℕ) →
      Moment gave now k z p → since ≤ now → StepsWell (regions kd) e p p' → TreeAt y p' → EditHoldsOn held held' z y p p' →
      Going held gave since now k z p link seen → Going held' gave since (suc now) k y p' link seen

  -- EVERY OTHER CALL leaves the tree; what is held out of it stays so, and leads on as it did
  abbrev pub KeepsWaiting : (ℕ → Bool) → (ℕ → Bool) → State (Cells K) → State (Cells K) → Place ℕ (Region K) → Type 0
  KeepsWaiting held held' z y p = (q : ℕ) → Waits (λ n. T (held n)) (whole p) q → T (held' q) × KeptNode z.memory y.memory q

  abbrev pub OthersCarry : Type 0
  OthersCarry =
      (held held' : ℕ → Bool) (gave : ℕ → Option (Region K)) (since now : ℕ) (k : K) (z y : State (Cells K)) (p p' : Place ℕ (Region K)) (link : ℕ) (seen : List ℕ) →
      Moment gave now k z p → since ≤ now → TreeAt y p' → whole p' ≡ whole p → KeepsWaiting held held' z y p →
      Going held gave since now k z p link seen → Going held' gave since (suc now) k y p' link seen

  -- A STEP tells what was given at a moment since the opening, or moves on
  abbrev pub StepCarries : Type 0
  StepCarries =
      (held : ℕ → Bool) (gave : ℕ → Option (Region K)) (since now : ℕ) (k : K) (z : State (Cells K)) (p : Place ℕ (Region K)) (link : ℕ) (seen : List ℕ)
      (n : ℕ) (a : Outcome K F) (w : Row) →
      Moment gave now k z p → since ≤ now → Going held gave since now k z p link seen → Steps kd z.memory k n link a w →
      AfterStep (λ n. T (held n)) (Given gave since now) (seek (regions kd) k) z.memory (whole p) link seen a w

  -- IT ENDS: a lookup that is going has made fewer steps than the pool has nodes. And it stands at no node, or at one that can be read
  -- and is in the tree or held.
  pub record Ends (held : ℕ → Bool) (z : State (Cells K)) (p : Place ℕ (Region K)) (link : ℕ) (seen : List ℕ) : Type 0 where
    pub fewer : length seen < pool z.memory
    pub stands : (link ≡ 0) ⊎ ((x : Region K) × FoundAt (λ n. T (held n)) z.memory (whole p) link x)

  abbrev pub StepsEnd : Type 0
  StepsEnd =
      (held : ℕ → Bool) (gave : ℕ → Option (Region K)) (since now : ℕ) (k : K) (z : State (Cells K)) (p : Place ℕ (Region K)) (link : ℕ) (seen : List ℕ) →
      TreeAt z p → 1 ≤ pool z.memory → ((q : ℕ) → T (held q) → InPool z.memory q) →
      Going held gave since now k z p link seen → Ends held z p link seen

  -- WHAT WAS FOUND at a node stays there to be told again: by an edit, and by every other call
  abbrev pub EditKeepsFound : Type 0
  EditKeepsFound =
      (held held' : ℕ → Bool) (e : Edit K (Region K)) (z y : State (Cells K)) (p p' : Place ℕ (Region K)) (q : ℕ) (x : Region K) →
      TreeAt z p → StepsWell (regions kd) e p p' → TreeAt y p' → EditHoldsOn held held' z y p p' →
      FoundAt (λ n. T (held n)) z.memory (whole p) q x → FoundAt (λ n. T (held' n)) y.memory (whole p') q x

  abbrev pub OthersKeepFound : Type 0
  OthersKeepFound =
      (held held' : ℕ → Bool) (z y : State (Cells K)) (p p' : Place ℕ (Region K)) (q : ℕ) (x : Region K) →
      TreeAt z p → TreeAt y p' → whole p' ≡ whole p → KeepsWaiting held held' z y p →
      FoundAt (λ n. T (held n)) z.memory (whole p) q x → FoundAt (λ n. T (held' n)) y.memory (whole p') q x
