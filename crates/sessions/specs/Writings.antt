-- What the cells of a store are after some of its nodes were written, each at most once.
use Rattle.std.specs.Prelude.{◌≡◌, ℕ, false, cond, ◌⊎◌, List, length, Some, None, Option, ◌==◌}
use Rattle.store.specs.declared.node.Node.{Node}
use Rattle.store.specs.Faults.{outside}
use Rattle.store.specs.Cells.{Cell, shut, readable, cell_at}

-- what is written to each node, if anything
abbrev pub Writing : Type 0 → Type 0
Writing K = ℕ → Option (Node K)

-- a call that writes nothing
abbrev pub nothing_written : {K : Type 0} → Writing K
nothing_written n = None

-- a call that writes node m alone
abbrev pub only : {K : Type 0} → ℕ → Node K → Writing K
only m v n = cond (n == m) (Some v) None

-- what a cell c may become: it stays where nothing is written; else the node written can be read there,
-- or is closed with its mark, which is the store's own affair
abbrev pub CellAfter : {K : Type 0} → Option (Node K) → Cell K → Cell K → Type 0
CellAfter None c d = d ≡ c
CellAfter (Some v) c d = (d ≡ readable v) ⊎ (d ≡ shut v.mark)

-- the cells ds are the cells cs after the writing w: as many, each as w says
pub record Rewritten {K : Type 0} (w : Writing K) (cs ds : List (Cell K)) : Type 0 where
  pub count : length ds ≡ length cs
  pub each : (n : ℕ) → outside n (length cs) ≡ false → CellAfter (w n) (cell_at cs n) (cell_at ds n)
