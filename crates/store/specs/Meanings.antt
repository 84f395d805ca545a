-- What the stores here mean, and what it takes for them to be fit: said of what their impls give as `cells` and `fit`.
use Rattle.std.specs.Prelude.{◌≡◌, ℕ, List}
use Rattle.store.specs.declared.record.RecordStore.{RecordStore}
use Rattle.store.specs.declared.guard.Guard.{Guard}
use Rattle.store.specs.Cells.{Cell, cell_at, mark_of, count_answer, all_readable, all_shut, guarded}
use Rattle.store.specs.Fits.{Iff, InRange, FitCells}

-- fitness shuts out a store that closes all its nodes, unless all of them are free
abbrev pub ClosedAllFree : Type 0 → Type 0
ClosedAllFree K = (cs : List (Cell K)) → FitCells (all_shut cs) → (n : ℕ) → mark_of (cell_at cs n) ≡ 0

module _ {K : Type 0} where
  -- a record store closes no node, and is fit exactly if its number of nodes is in range
  abbrev pub RecordStoreMeaning : (RecordStore K → List (Cell K)) → (RecordStore K → Type 0) → Type 0
  RecordStoreMeaning cells fit = (s : RecordStore K) →
      (cells s ≡ all_readable s.nodes.now) × Iff (fit s) (InRange (count_answer (cells s)))

  -- a guard closes what is closed below and what has mark 0, and is fit exactly if the store below is
  abbrev pub GuardMeaning : {S : Type 0} → (Guard S → List (Cell K)) → (Guard S → Type 0) → (S → List (Cell K)) → (S → Type 0) → Type 0
  GuardMeaning {S} cells fit cells_below fit_below = (s : Guard S) →
      (cells s ≡ guarded (cells_below s.below)) × Iff (fit s) (fit_below s.below)
