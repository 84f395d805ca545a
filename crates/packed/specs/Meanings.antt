-- What a byte store means, and that it means what a record store does. Said of what its impl gives as `cells` and `fit`.
use Rattle.std.specs.Prelude.{◌≡◌, ℕ, List, [], ◌∷◌}
use Rattle.keys.specs.declared.key.Key as key
use Rattle.store.specs.declared.node.Node.{Node}
use Rattle.store.specs.Cells.{Cell, count_answer, all_readable, nodes_after}
use Rattle.store.specs.Fits.{Iff, InRange}
use Rattle.packed.specs.declared.packing.ByteStore.{ByteStore}
use Rattle.packed.specs.Layout.{Packs}
use Rattle.packed.specs.Rooms.{byte_cells, bytes_after}

-- a byte store closes no node, and is fit exactly if its number of nodes is in range
abbrev pub ByteStoreMeaning : {K F : Type 0} → key.Ghosts K F → (ByteStore K → List (Cell K)) → (ByteStore K → Type 0) → Type 0
ByteStoreMeaning {K} k cells fit = (s : ByteStore K) →
    (cells s ≡ byte_cells k s.bytes.now) × Iff (fit s) (InRange (count_answer (cells s)))

-- a list of writes: each the number of a node, and what is written there
abbrev pub Writes : Type 0 → Type 0
Writes K = List (ℕ × Node K)

-- what a list of writes comes to, one after the other, where `after` says what one does
abbrev pub run : {S K : Type 0} → (S → ℕ → Node K → S) → S → Writes K → S
run after s [] = s
run after s (w ∷ ws) = run after (after s w.0 w.1) ws

module _ {K F : Type 0} (k : key.Ghosts K F) where
  -- each node of the list can be packed and read back, as every node that code holds can
  abbrev pub AllPack : Writes K → Type 0
  AllPack [] = Unit {0}
  AllPack (w ∷ ws) = Packs k w.1 × AllPack ws

  -- from cells that agree, the same writes lead to cells that agree
  abbrev pub SameMeaning : Type 0
  SameMeaning = (bs : List ℕ) (vs : List (Node K)) (ws : Writes K) → AllPack ws →
      byte_cells k bs ≡ all_readable vs → byte_cells k (run (bytes_after k) bs ws) ≡ all_readable (run nodes_after vs ws)
