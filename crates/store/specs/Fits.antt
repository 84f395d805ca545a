-- When a store is fit for a catalogue.
use Rattle.std.specs.Prelude.{◌≡◌, ℕ, zero, suc, ◌-◌, ◌≤◌, Bool, true, false, cond, List, [], ◌∷◌, length, ◌==◌, slice_index_or}
use Rattle.std.proofs.Common.{sym, subst, ◌∙◌, arith}
use Rattle.std.proofs.lemmas.List.{length-map}
use Rattle.std.proofs.Math.ListN.{get_or-map}
use Rattle.store.specs.declared.node.Node.{Node}
use Rattle.store.specs.Cells.{Cell, shut, readable, cell_at, all_readable, guarded, guard_cell}

-- how many nodes a catalogue can be made of
pub record InRange (N : ℕ) : Type 0 where
  pub least : 160 ≤ N
  pub most : N ≤ 4096

-- a closed node has mark 0
abbrev pub ShutFree : {K : Type 0} → List (Cell K) → Type 0
ShutFree cs = (n m : ℕ) → cell_at cs n ≡ shut m → m ≡ 0

-- what every fit store's cells are
pub record FitCells {K : Type 0} (cs : List (Cell K)) : Type 0 where
  pub range : InRange (length cs)
  pub free : ShutFree cs

-- each of two facts gives the other
pub record Iff (P Q : Type 0) : Type 0 where
  pub to : P → Q
  pub from : Q → P

module _ {K : Type 0} where
  none_shut : (vs : List (Node K)) (i m : ℕ) → slice_index_or (all_readable vs) i (shut 0) ≡ shut m → m ≡ 0
  none_shut [] i m e = cc
  none_shut (v ∷ vs) zero m e = let z : ◌≡◌ {A = ℕ} 0 1 = cc in omega arith
  none_shut (v ∷ vs) (suc i) m e = none_shut vs i m e

  -- a row of nodes none of which is closed is fit if it is neither too short nor too long
  pub readable_fit : (vs : List (Node K)) → InRange (length vs) → FitCells (all_readable vs)
  readable_fit vs r =
      record { range = subst InRange (sym (length-map vs readable)) r; free = λ n m e. none_shut vs (n - 1) m e }

  by_test : (b : Bool) (v : Node K) (m : ℕ) → cond b (shut 0) (readable v) ≡ shut m → m ≡ 0
  by_test true v m e = cc
  by_test false v m e = let z : ◌≡◌ {A = ℕ} 0 1 = cc in omega arith

  by_cell : (c : Cell K) (m : ℕ) → ((k : ℕ) → c ≡ shut k → k ≡ 0) → guard_cell c ≡ shut m → m ≡ 0
  by_cell (shut k) m free e = free m e
  by_cell (readable v) m free e = by_test (v.mark == 0) v m e

  -- a guard closes no more than what has mark 0
  pub guarded_fit : (cs : List (Cell K)) → FitCells cs → FitCells (guarded cs)
  guarded_fit cs f = record {
    range = subst InRange (sym (length-map cs guard_cell)) f.range;
    free = λ n m e. by_cell (cell_at cs n) m (f.free n) (sym (get_or-map guard_cell cs (n - 1) (shut 0)) ∙ e);
  }
