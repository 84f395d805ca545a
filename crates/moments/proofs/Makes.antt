-- The making begins the invariant.
use Rattle.std.proofs.Common.{◌≡◌, ℕ, zero, suc, ◌<◌, List, length, get_or, replicate, Some, None, Option, sym, refl, ap, ◌∙◌, not-suc-le-zero, arith}
use Rattle.store.specs.Cells.{mark_of, cell_at}
use Rattle.trees.specs.Regions.{Laws}
use Rattle.trees.proofs.Steps.{empty_stands}
use Rattle.runs.specs.Calls.{Kind, regions}
use Rattle.runs.specs.Histories.{Lookup}
use Rattle.runs.specs.States.{Cells, Row, row, closed}
use Rattle.runs.proofs.Makes.{seat_at, rest_at, empty_tree}
use Rattle.moments.specs.Theorems.{MadeInv}

all_same : {A : Type 0} (n s : ℕ) (a : A) → get_or (replicate n a) s a ≡ a
all_same zero s a = refl
all_same (suc n) zero a = refl
all_same (suc n) (suc s) a = all_same n s a

module _ {K F : Type 0} (kd : Kind K F) (laws : Laws (regions kd)) where
  no_lookup : (l : Lookup K) → ◌≡◌ {A = Option (Lookup K)} None (Some l) → ⊥
  no_lookup l e = let z : ◌≡◌ {A = ℕ} 0 1 = cc in omega arith

  pub made_inv : MadeInv kd
  made_inv z made fit =
      let p = made.pool_cells in
      let free : (q : ℕ) → 32 < q → mark_of (cell_at z.memory q) ≡ 0 =
      λ q h. ap (λ (cs : Cells K). mark_of (cell_at cs q)) made.every_node ∙ rest_at kd.filler p made.all_free q h in
      record {
        fit = fit;
        as_many = refl;
        tree = empty_tree kd.filler z made;
        stands = empty_stands (regions kd) laws;
        spells = refl;
        room = omega arith;
        told = sym (ap length made.at_rest);
        short = let e = ap length made.at_rest in omega arith;
        marks = λ q h. let e = free q h.past_seats in omega arith;
        live = λ q h m. let e = free q h.past_seats in absurd (let f : ⊥ = omega arith in f);
        waiting_left = λ q h m. let e = free q h.past_seats in absurd (let f : ⊥ = omega arith in f);
        left_waits = λ q i s l o. absurd (not-suc-le-zero l.within);
        none_14 = tt;
        seats = λ s h. ap (λ (cs : Cells K). cell_at cs (suc s)) made.every_node ∙ seat_at kd.filler p s h;
        all_rows = ap length made.all_closed;
        rows = λ s. ap (λ (ws : List Row). (get_or ws s (row closed 0 0)).stage) made.all_closed ∙ ap (λ (w : Row). w.stage) (all_same 32 s (row closed 0 0));
        sessions = λ s l e. absurd (no_lookup l e);
        formed = λ s l e. absurd (no_lookup l e);
      }
