-- Calls that leave the tree: what of the invariant goes on by itself.
use Rattle.std.proofs.Common.{◌≡◌, ℕ, suc, ◌<◌, ◌≤◌, Bool, true, false, T, eqb, ◌⊎◌, List, ◌∷◌, length, get_or, Some, None, Option, sym, refl, ap, ◌∙◌, subst, inl, inr, arith, eqb-true}
use native.Mathlib.Decide.{dec_le}
use borrow.Author.Tests.{eqb-false}
use Rattle.store.specs.declared.node.Node.{Node}
use Rattle.store.specs.declared.node.Region.{Region}
use Rattle.store.specs.Cells.{readable, mark_of, cell_at}
use Rattle.store.specs.Fits.{FitCells}
use Rattle.store.specs.Nodes.{plain}
use Rattle.trees.specs.Edits.{Place, whole}
use Rattle.trees.specs.Paths.{In}
use Rattle.requests.specs.declared.call.Call.{Call}
use Rattle.runs.specs.Calls.{Kind, Outcome}
use Rattle.runs.specs.Histories.{History, set_of, to_do, Lookup, lookup, open_since, seat_key, bits}
use Rattle.runs.specs.States.{State, Cells, Row, row, closed, row_of, InPool, Spells, TreeAt}
use Rattle.runs.specs.Effects.{Exact}
use Rattle.runs.specs.Runs.{Turn, turn, history, state, LeftAfter, LeftDuring}
use Rattle.moments.specs.Invariant.{RowFits, SameTree, scene_at, Inv}
use Rattle.moments.proofs.Spelled.{spells_same, led, leads}
use Rattle.moments.proofs.Gives.{two_in_pool}
use Rattle.moments.proofs.Moments.{left_was, left_more, left_now}
use Rattle.moments.proofs.Told.{bits_same}
use Rattle.moments.proofs.Taken.{never_14}

-- one session or another
pub which : (j s : ℕ) → (j ≡ s) ⊎ (j ≡ s → ⊥)
which j s = by_test (eqb j s) refl
  where
    by_test : (b : Bool) → eqb j s ≡ b → (j ≡ s) ⊎ (j ≡ s → ⊥)
    by_test true e = inl (eqb-true j s e)
    by_test false e = inr (λ d. eqb-false j s e d)

-- THE SESSIONS after a call of session j: the others are as they were

module _ {K F : Type 0} (kd : Kind K F) where
  pub record SessionAfter (z : State (Cells K)) (ts : List (Turn (Cells K) K F)) (t : Turn (Cells K) K F) (j : ℕ) : Type 0 where
    pub other_lookups : (s : ℕ) → (j ≡ s → ⊥) → lookup s (history (t ∷ ts)) ≡ lookup s (history ts)
    pub other_rows : (s : ℕ) → (j ≡ s → ⊥) → row_of t.after s ≡ row_of (state z ts) s
    pub all_rows : length t.after.rows ≡ 32
    pub row : RowFits (lookup j (history (t ∷ ts))) (row_of t.after j)
    pub session : j < 32
    pub formed : (l : Lookup K) → lookup j (history (t ∷ ts)) ≡ Some l → kd.fault l.key ≡ None

-- A call that leaves the tree. What it makes of the other nodes of the pool is said by the rest.

module _ {K F : Type 0} (kd : Kind K F) (z : State (Cells K)) (ts : List (Turn (Cells K) K F)) (p : Place ℕ (Region K)) (c : Call K) (a : Outcome K F)
    (y : State (Cells K)) (v : Inv kd z ts p) (same : SameTree (state z ts) y)
    (kept : (q : ℕ) → In q (whole p) → cell_at y.memory q ≡ cell_at (state z ts).memory q) where
  abbrev x : State (Cells K)
  x = state z ts

  abbrev h : History K F
  h = history ts

  abbrev us : List (Turn (Cells K) K F)
  us = turn c a y ∷ ts

  tree_after : TreeAt y p
  tree_after = record {
    spelled =
        subst (λ (n : ℕ). Spells y.memory y.pending n (whole p)) (sym same.root)
        (subst (λ (ns : List ℕ). Spells y.memory ns x.root (whole p)) (sym same.pending)
        (spells_same x.memory y.memory x.pending x.root (whole p) same.as_many kept v.tree.spelled));
    path_pending = same.pending ∙ v.tree.path_pending;
  }

  -- none leaves
  pub left_before : (i q : ℕ) → LeftAfter z us i q → LeftAfter z ts i q
  left_before i q l = by_time (dec_le (suc i) (length ts))
    where
      by_time : Dec (i < length ts) → LeftAfter z ts i q
      by_time (yes lt) = left_was z ts (turn c a y) i q lt l
      by_time (no ge) =
          let g = left_now z ts (turn c a y) i q ge l in absurd (g.is_out (leads y p tree_after q (led x p v.tree q g.was_in)))

  pub pool_was : (q : ℕ) → InPool y.memory q → InPool x.memory q
  pool_was q i = let a = i.inside in let m = same.as_many in record { past_seats = i.past_seats; inside = omega arith }

  -- the nodes of the pool
  pub record PoolAfter : Type 0 where
    pub fit : FitCells y.memory
    pub marks : (q : ℕ) → InPool y.memory q → mark_of (cell_at y.memory q) ≤ 2
    pub live : (q : ℕ) → InPool y.memory q → mark_of (cell_at y.memory q) ≡ 1 → mark_of (cell_at x.memory q) ≡ 1
    pub waiting_left : (q : ℕ) → InPool y.memory q → mark_of (cell_at y.memory q) ≡ 2 → LeftDuring z us q
    pub left_waits :
        (q i s : ℕ) → LeftAfter z ts i q → T (open_since (history us) i s) →
        (w : Node K) × (cell_at y.memory q ≡ readable w) × (w.mark ≡ 2) × (w.waits ≡ bits (open_since (history us) i) 32)
    pub seats : (s : ℕ) → s < 32 → cell_at y.memory (suc s) ≡ readable (plain 3 (seat_key kd.filler s (history us)) kd.filler)

  -- the rows and lookups
  pub record RowsAfter : Type 0 where
    pub all_rows : length y.rows ≡ 32
    pub rows : (s : ℕ) → RowFits (lookup s (history us)) (row_of y s)
    pub sessions : (s : ℕ) (l : Lookup K) → lookup s (history us) ≡ Some l → s < 32
    pub formed : (s : ℕ) (l : Lookup K) → lookup s (history us) ≡ Some l → kd.fault l.key ≡ None

  pub quiet_keeps : Exact kd (scene_at kd z ts p) c a y p → PoolAfter → RowsAfter → set_of kd (history us) ≡ set_of kd h → to_do (history us) ≡ to_do h → Inv kd z us p
  quiet_keeps ex b r set told = record {
    fit = b.fit;
    as_many = same.as_many ∙ v.as_many;
    tree = tree_after;
    stands = v.stands;
    spells = v.spells ∙ sym set;
    room = let n = v.room in let m = ap length set in omega arith;
    told = told ∙ v.told ∙ sym (ap length same.pending);
    short = let n = v.short in let m = ap length same.pending in omega arith;
    marks = b.marks;
    live = λ q i m. v.live q (pool_was q i) (b.live q i m);
    waiting_left = b.waiting_left;
    left_waits = λ q i s l o. b.left_waits q i s (left_before i q l) o;
    none_14 = (never_14 kd (scene_at kd z ts p) c a y p ex, v.none_14);
    seats = b.seats;
    all_rows = r.all_rows;
    rows = r.rows;
    sessions = r.sessions;
    formed = r.formed;
  }

  -- no session's lookup or row changes
  pub rows_stay : y.rows ≡ x.rows → ((s : ℕ) → lookup s (history us) ≡ lookup s h) → RowsAfter
  rows_stay e look = record {
    all_rows = ap length e ∙ v.all_rows;
    rows = λ s.
        subst (λ (o : Option (Lookup K)). RowFits o (row_of y s)) (sym (look s))
        (subst (λ (rs : List Row). RowFits (lookup s h) (get_or rs s (row closed 0 0))) (sym e) (v.rows s));
    sessions = λ s l g. v.sessions s l (sym (look s) ∙ g);
    formed = λ s l g. v.formed s l (sym (look s) ∙ g);
  }

  -- those of session j change
  pub rows_change : (j : ℕ) → SessionAfter kd z ts (turn c a y) j → RowsAfter
  rows_change j d = record { all_rows = d.all_rows; rows = fits; sessions = below; formed = well }
    where
      fits : (s : ℕ) → RowFits (lookup s (history us)) (row_of y s)
      fits s =
          elim (which j s) [
            | inl e ↦ subst (λ (n : ℕ). RowFits (lookup n (history us)) (row_of y n)) e d.row
            | inr n ↦
                subst (λ (o : Option (Lookup K)). RowFits o (row_of y s)) (sym (d.other_lookups s n))
                (subst (λ (w : Row). RowFits (lookup s h) w) (sym (d.other_rows s n)) (v.rows s))
          ]

      below : (s : ℕ) (l : Lookup K) → lookup s (history us) ≡ Some l → s < 32
      below s l g =
          elim (which j s) [
            | inl e ↦ let b = d.session in omega arith
            | inr n ↦ v.sessions s l (sym (d.other_lookups s n) ∙ g)
          ]

      well : (s : ℕ) (l : Lookup K) → lookup s (history us) ≡ Some l → kd.fault l.key ≡ None
      well s l g =
          elim (which j s) [
            | inl e ↦ d.formed l (ap (λ (n : ℕ). lookup n (history us)) e ∙ g)
            | inr n ↦ v.formed s l (sym (d.other_lookups s n) ∙ g)
          ]

  -- No node is written but free ones, and a lookup is open since before the call just if it was.
  pub pool_stays :
      FitCells y.memory → ((q : ℕ) → InPool x.memory q → (cell_at y.memory q ≡ cell_at x.memory q) ⊎
      ((mark_of (cell_at x.memory q) ≡ 0) × (mark_of (cell_at y.memory q) ≡ 0))) →
      ((i s : ℕ) → i < length ts → open_since (history us) i s ≡ open_since h i s) →
      ((s : ℕ) → s < 32 → cell_at y.memory (suc s) ≡ readable (plain 3 (seat_key kd.filler s (history us)) kd.filler)) → PoolAfter
  pool_stays fit cells opens seats = record {
    fit = fit;
    marks = λ q i. let n = v.marks q (pool_was q i) in subst (λ (m : ℕ). m ≤ 2) (sym (same_mark q i)) n;
    live = λ q i m. sym (same_mark q i) ∙ m;
    waiting_left = λ q i m. more q (v.waiting_left q (pool_was q i) (sym (same_mark q i) ∙ m));
    left_waits = λ q i s l o. waits q i s l o;
    seats = seats;
  }
    where
      same_mark : (q : ℕ) → InPool y.memory q → mark_of (cell_at y.memory q) ≡ mark_of (cell_at x.memory q)
      same_mark q i = elim (cells q (pool_was q i)) [ inl e ↦ ap mark_of e | inr e ↦ e.1 ∙ sym e.0 ]

      more : (q : ℕ) → LeftDuring z ts q → LeftDuring z us q
      more q l = record {
        moment = l.moment;
        session = l.session;
        left = left_more z ts (turn c a y) l.moment q l.left;
        still_open = subst T (sym (opens l.moment l.session l.left.within)) l.still_open;
      }

      waits :
          (q i s : ℕ) → LeftAfter z ts i q → T (open_since (history us) i s) →
          (w : Node K) × (cell_at y.memory q ≡ readable w) × (w.mark ≡ 2) × (w.waits ≡ bits (open_since (history us) i) 32)
      waits q i s l o =
          let w = v.left_waits q i s l (subst T (opens i s l.within) o) in
          let m : mark_of (cell_at x.memory q) ≡ 2 = ap mark_of w.1 ∙ w.2 in
          let e = bits_same (open_since h i) (open_since (history us) i) 32 (λ u b. sym (opens i u l.within)) in
          elim (cells q (two_in_pool kd z ts p v q m)) [
            | inl g ↦ (w.0, g ∙ w.1, w.2, w.3 ∙ e)
            | inr g ↦ let n = g.0 in absurd (let f : ⊥ = omega arith in f)
          ]
