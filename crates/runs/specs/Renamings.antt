-- Renaming nodes: what the promise says of a run it says of the run with other numbers for its nodes.
use Rattle.std.specs.Prelude.{◌≡◌, ℕ, ◌≤◌, List, [], ◌∷◌, map, length}
use Rattle.store.specs.declared.node.Node.{Node}
use Rattle.store.specs.Cells.{Cell, shut, readable, cell_at}
use Rattle.trees.specs.Regions.{Ranges}
use Rattle.trees.specs.Trees.{Tree, leaf, node}
use Rattle.trees.specs.Rotations.{Label, kept, new}
use Rattle.trees.specs.Edits.{Frame, frame, Place, place, Edit, Made, edited}
use Rattle.runs.specs.Calls.{Kind}
use Rattle.runs.specs.States.{State, Cells, Row, row}
use Rattle.runs.specs.Runs.{Turn}
use Rattle.runs.specs.Promise.{Kept}

-- TREES with other labels

module _ {L M R : Type 0} (f : L → M) where
  abbrev pub relabel : Tree L R → Tree M R
  relabel leaf = leaf
  relabel (node o l x r) = node (f o) (relabel l) x (relabel r)

  abbrev pub relabel_path : List (Frame L R) → List (Frame M R)
  relabel_path [] = []
  relabel_path (frame s o x u ∷ fs) = frame s (f o) x (relabel u) ∷ relabel_path fs

  abbrev pub relabel_place : Place L R → Place M R
  relabel_place p = place (relabel_path p.above) (relabel p.under)

-- new nodes stay new
abbrev pub renamed_label : (ℕ → ℕ) → Label → Label
renamed_label f (kept n) = kept (f n)
renamed_label f new = new

abbrev pub renamed_made : {R : Type 0} → (ℕ → ℕ) → Made R → Made R
renamed_made f m = record { above = relabel_path f m.above; grown = relabel (renamed_label f) m.grown }

-- what an edit makes of a tree does not depend on the numbers of its nodes
abbrev pub EditsRename : {K R : Type 0} → Ranges K R → Type 0
EditsRename {K} {R} g = (f : ℕ → ℕ) (e : Edit K R) (p : Place ℕ R) → edited g e (relabel_place f p) ≡ renamed_made f (edited g e p)

-- STATES with other numbers for their nodes

-- N nodes renamed one to one; 0, which is no node, and the seats keep their numbers
pub record Renaming (N : ℕ) : Type 0 where
  pub to : ℕ → ℕ
  pub from : ℕ → ℕ
  pub from_to : (n : ℕ) → from (to n) ≡ n
  pub to_from : (n : ℕ) → to (from n) ≡ n
  pub seats_stay : (n : ℕ) → n ≤ 32 → to n ≡ n
  pub to_nodes : (n : ℕ) → n ≤ N → to n ≤ N
  pub from_nodes : (n : ℕ) → n ≤ N → from n ≤ N

-- links follow
abbrev pub renamed_node : {K : Type 0} → (ℕ → ℕ) → Node K → Node K
renamed_node f v = record { mark = v.mark; left = f v.left; right = f v.right; size = v.size; rows = v.rows; waits = v.waits; low = v.low; high = v.high }

abbrev pub renamed_cell : {K : Type 0} → (ℕ → ℕ) → Cell K → Cell K
renamed_cell f (shut m) = shut m
renamed_cell f (readable v) = readable (renamed_node f v)

abbrev pub renamed_row : (ℕ → ℕ) → Row → Row
renamed_row f w = row w.stage (f w.place) w.steps

-- y is x renamed: what node n was is at the new number of n, and links, pending nodes and places follow
pub record Renamed {K : Type 0} {N : ℕ} (ρ : Renaming N) (x y : State (Cells K)) : Type 0 where
  pub has_nodes : length x.memory ≡ N
  pub as_many : length y.memory ≡ N
  pub nodes : (n : ℕ) → cell_at y.memory (ρ.to n) ≡ renamed_cell ρ.to (cell_at x.memory n)
  pub root : y.root ≡ ρ.to x.root
  pub pending : y.pending ≡ map ρ.to x.pending
  pub rows : y.rows ≡ map (renamed_row ρ.to) x.rows

-- the same calls with the same answers, and states renamed
abbrev pub RenamedTurns : {K F : Type 0} {N : ℕ} → Renaming N → List (Turn (Cells K) K F) → List (Turn (Cells K) K F) → Type 0
RenamedTurns ρ [] [] = Unit {0}
RenamedTurns ρ [] (u ∷ us) = ⊥
RenamedTurns ρ (t ∷ ts) [] = ⊥
RenamedTurns ρ (t ∷ ts) (u ∷ us) = (u.call ≡ t.call) × (u.answer ≡ t.answer) × Renamed ρ t.after u.after × RenamedTurns ρ ts us

-- what is promised at a moment of a run is promised of the run renamed
abbrev pub KeptRenames : {K F : Type 0} → Kind K F → Type 0
KeptRenames {K} {F} kd =
    (N : ℕ) (ρ : Renaming N) (z y : State (Cells K)) (ts us : List (Turn (Cells K) K F)) →
    Renamed ρ z y → RenamedTurns ρ ts us → Kept kd z ts → Kept kd y us
