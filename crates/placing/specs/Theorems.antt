-- What is proved of the writes of an edit, as statements for contracts.
use Rattle.std.specs.Prelude.{◌≡◌, ℕ, ◌≤◌, List, [], ◌∷◌, length, nat_eq, Option}
use Rattle.store.specs.declared.node.Node.{Node}
use Rattle.store.specs.declared.node.Region.{Region}
use Rattle.store.specs.Cells.{readable, cell_at, mark_of}
use Rattle.store.specs.Fits.{ShutFree}
use Rattle.trees.specs.Trees.{Side, Tree, beside, count}
use Rattle.trees.specs.Rotations.{Label}
use Rattle.trees.specs.Edits.{Frame, frame, labels, plug}
use Rattle.trees.specs.Paths.{inside, Distinct}
use Rattle.drafts.specs.declared.link.Numbered.{Numbered}
use Rattle.drafts.specs.Grown.{Grown}
use Rattle.search.specs.Frees.{Chosen}
use Rattle.commits.specs.declared.writes.Joint.{Joint}
use Rattle.commits.specs.Commits.{Writes, news, placed, root_after, committed}
use Rattle.runs.specs.States.{Cells, Spells, waiting}
use Rattle.runs.specs.Teeth.{Among}
use Rattle.lifting.specs.Lifts.{Stands}
use Rattle.placing.specs.Placings.{ReadBack, PutDown, Joins, Drafted, CommittedWell, with_size, ResizedWell}

module _ (K : Type 0) where
  -- what stands in the cells after some writes
  abbrev pub WritesReadBack : Type 0
  WritesReadBack = (cs ds : Cells K) (ws : List (Numbered K)) → Writes cs ws ds → ReadBack cs ws ds

  -- a grown tree put into the store spells the tree that it stands for
  abbrev pub PlacesSpell : Type 0
  PlacesSpell =
      (cs ds : Cells K) (g : Grown K) (t : Tree Label (Region K)) (ns : List ℕ) →
      Stands cs g t → Chosen cs ns → news g ≤ length ns → Writes cs (placed g ns).writes ds → ShutFree ds →
      PutDown cs ds ns (placed g ns).top t

  -- a commit leaves the tree with one link changed
  abbrev pub CommitSpells : Type 0
  CommitSpells =
      (cs ds : Cells K) (pending : List ℕ) (root sessions : ℕ) (fs : List (Frame ℕ (Region K))) (s : Tree ℕ (Region K)) (g : Grown K)
      (t : Tree Label (Region K)) (gone : List (Numbered K)) (j : Option (Joint K)) (ns : List ℕ) →
      Drafted cs pending root fs s g t gone → Joins cs fs j → Chosen cs ns → news g ≤ length ns →
      Writes cs (committed j (placed g ns) sessions gone) ds → ShutFree ds →
      CommittedWell cs ds (root_after j (placed g ns).top root) sessions fs s t gone

  -- setting the size of the lowest pending node leaves the tree, that node pending no more
  abbrev pub ResizeSpells : Type 0
  ResizeSpells =
      (cs ds : Cells K) (root : ℕ) (fs : List (Frame ℕ (Region K))) (side : Side) (n : ℕ) (x : Region K) (u t : Tree ℕ (Region K)) (v : Node K) →
      Spells cs (n ∷ labels fs) root (plug (frame side n x u ∷ fs) t) → Distinct (plug (frame side n x u ∷ fs) t) → cell_at cs n ≡ readable v →
      Writes cs (record { number = n; node = with_size (count (beside side n t x u)) v } ∷ []) ds → ShutFree ds →
      ResizedWell cs ds root n v fs (beside side n t x u)

  -- A node that waits after a commit is as it was but for its mark, its waits and, where the commit set one, its size: if each node
  -- that left was written so, and no size was set but in the tree.
  abbrev pub WaitingStays : Type 0
  WaitingStays =
      (cs ds : Cells K) (root sessions : ℕ) (fs : List (Frame ℕ (Region K))) (s : Tree ℕ (Region K)) (t : Tree Label (Region K))
      (gone : List (Numbered K)) (size : ℕ → ℕ → ℕ) →
      CommittedWell cs ds root sessions fs s t gone →
      ((p : Numbered K) (v : Node K) → Among p gone → cell_at cs p.number ≡ readable v → p.node ≡ with_size (size p.number v.size) v) →
      ((n k : ℕ) → inside (nat_eq n) (plug fs s) ≡ 0 → size n k ≡ k) →
      (n : ℕ) (v : Node K) → mark_of (cell_at ds n) ≡ 2 → cell_at cs n ≡ readable v →
      (w : ℕ) × (cell_at ds n ≡ readable (waiting v (size n v.size) w))
