-- An accepted close keeps the invariant.
use Rattle.std.proofs.Common.{◌≡◌, ℕ, suc, ◌<◌, ◌≤◌, Bool, true, false, cond, T, eqb, ◌⊎◌, List, ◌∷◌, length, get_or, set, Some, None, Option, sym, refl, ap, ◌∙◌, subst, inl, inr, arith, length-set, get_or-set_other, get_or-set_same, eq-eqb, ne_eqb}
use Rattle.store.specs.declared.node.Node.{Node}
use Rattle.store.specs.declared.node.Region.{Region}
use Rattle.store.specs.Cells.{shut, readable, mark_of, cell_at}
use Rattle.store.specs.Fits.{InRange}
use Rattle.store.specs.Nodes.{plain}
use Rattle.trees.specs.Edits.{Place, whole}
use Rattle.trees.specs.Paths.{In}
use Rattle.requests.specs.declared.call.Call.TheVariants.{Close}
use Rattle.runs.specs.declared.call.Refusal.TheVariants.{NoLookup}
use Rattle.runs.specs.Calls.{Kind, accepted, Outcome}
use Rattle.runs.specs.Histories.{History, last_told, to_do, Lookup, lookup, begun_by, open_since, seat_key, bits}
use Rattle.runs.specs.States.{State, Cells, Row, row, closed, as_closed, row_of, waiting, InPool}
use Rattle.runs.specs.Table.{no_lookup}
use Rattle.runs.specs.Effects.{Exact}
use Rattle.runs.specs.Runs.{Turn, turn, history, state, LeftAfter, LeftDuring}
use Rattle.moments.specs.Invariant.{but_for, RowFits, LeftBehind, FrameClose, scene_at, Inv}
use Rattle.moments.specs.Theorems.{CloseKeeps}
use Rattle.moments.proofs.Spelled.{live_mark, tree_live}
use Rattle.moments.proofs.Gives.{two_in_pool}
use Rattle.moments.proofs.Moments.{left_more}
use Rattle.moments.proofs.Told.{bits_same, bits_pick, bits_none, bits_some}
use Rattle.moments.proofs.Taken.{none_fits}
use Rattle.moments.proofs.Quiet.{which, SessionAfter, PoolAfter, pool_was, quiet_keeps, rows_change}
use Rattle.moments.proofs.Calls.{cond_same, set_stays}

module _ {K F : Type 0} (kd : Kind K F) (z : State (Cells K)) (ts : List (Turn (Cells K) K F)) (p : Place ℕ (Region K)) (v : Inv kd z ts p) (s : ℕ)
    (a : Outcome K F) (y : State (Cells K)) (ok : accepted a ≡ true) (ex : Exact kd (scene_at kd z ts p) (Close s) a y p)
    (fr : FrameClose s (state z ts) y) where
  abbrev x : State (Cells K)
  x = state z ts

  abbrev h : History K F
  h = history ts

  abbrev us : List (Turn (Cells K) K F)
  us = turn (Close s) a y ∷ ts

  -- THE LOOKUP that is closed

  has_lookup : (l : Lookup K) × (lookup s h ≡ Some l)
  has_lookup = by_lookup (lookup s h) refl
    where
      by_lookup : (o : Option (Lookup K)) → lookup s h ≡ o → (l : Lookup K) × (lookup s h ≡ Some l)
      by_lookup None e = absurd (none_fits kd (scene_at kd z ts p) (Close s) a y p ex ok NoLookup (no_lookup (Close s) s refl e))
      by_lookup (Some l) e = (l, e)

  look : (j : ℕ) → lookup j (history us) ≡ cond (eqb s j) None (lookup j h)
  look j = ap (λ (b : Bool). cond b (cond (eqb s j) None (lookup j h)) (lookup j h)) ok

  look_same : lookup s (history us) ≡ None
  look_same = look s ∙ ap (λ (b : Bool). cond b None (lookup s h)) (eq-eqb s s refl)

  look_other : (j : ℕ) → (s ≡ j → ⊥) → lookup j (history us) ≡ lookup j h
  look_other j n = look j ∙ ap (λ (b : Bool). cond b None (lookup j h)) (ne_eqb s j n)

  -- the sessions that are still open: those but s
  opens : (i j : ℕ) → but_for s (open_since h i) j ≡ open_since (history us) i j
  opens i j =
      elim (which s j) [
        | inl e ↦
            subst (λ (n : ℕ). but_for s (open_since h i) n ≡ open_since (history us) i n) e
            (ap (λ (b : Bool). cond b false (open_since h i s)) (eq-eqb s s refl) ∙ sym (ap (begun_by i) look_same))
        | inr n ↦
            ap (λ (b : Bool). cond b false (open_since h i j)) (ne_eqb j s (λ e. n (sym e))) ∙ sym (ap (begun_by i) (look_other j n))
      ]

  still : (i : ℕ) → bits (but_for s (open_since h i)) 32 ≡ bits (open_since (history us) i) 32
  still i = bits_same (but_for s (open_since h i)) (open_since (history us) i) 32 (λ j l. opens i j)

  was_open : (i j : ℕ) → T (open_since (history us) i j) → T (open_since h i j)
  was_open i j o =
      elim (which s j) [
        | inl e ↦ absurd (subst T (ap (open_since (history us) i) (sym e) ∙ ap (begun_by i) look_same) o)
        | inr n ↦ subst T (ap (begun_by i) (look_other j n)) o
      ]

  still_below : (i j : ℕ) → T (open_since (history us) i j) → j < 32
  still_below i j o = by_lookup (lookup j h) refl (was_open i j o)
    where
      by_lookup : (q : Option (Lookup K)) → lookup j h ≡ q → T (begun_by i q) → j < 32
      by_lookup None e t = absurd t
      by_lookup (Some l) e t = v.sessions j l e

  -- EVERY CELL AFTER IT

  -- what is left of a node that waits since moment i
  behind :
      (q i j : ℕ) → LeftAfter z ts i q → T (open_since h i j) →
      (w : Node K) × (cell_at x.memory q ≡ readable w) × LeftBehind w (bits (but_for s (open_since h i)) 32) (cell_at y.memory q)
  behind q i j l o =
      let w = v.left_waits q i j l o in
      (w.0, w.1, fr.released q w.0 (open_since h i) w.1 w.2 w.3)

  -- it waits on for the others
  waits_on :
      (q i j : ℕ) → LeftAfter z ts i q → T (open_since (history us) i j) →
      (w : Node K) × (cell_at y.memory q ≡ readable w) × (w.mark ≡ 2) × (w.waits ≡ bits (open_since (history us) i) 32)
  waits_on q i j l o =
      let b = behind q i j l (was_open i j o) in
      let many = bits_some (open_since (history us) i) 32 j (still_below i j o) (true_is (open_since (history us) i j) o) in
      let same = still i in
      let c = b.2.waits (λ e. let f : ⊥ = omega arith in f) in
      (waiting b.0 c.0 (bits (but_for s (open_since h i)) 32), c.1, refl, same)
    where
      true_is : (b : Bool) → T b → b ≡ true
      true_is true t = refl
      true_is false t = absurd t

  data After (q : ℕ) : Type 0 where
    as_was : (mark_of (cell_at x.memory q) ≡ 2 → ⊥) → cell_at y.memory q ≡ cell_at x.memory q → After q
    freed : mark_of (cell_at y.memory q) ≡ 0 → After q
    waits : LeftDuring z us q → (w : Node K) → cell_at y.memory q ≡ readable w → w.mark ≡ 2 → After q

  waiting_after : (q : ℕ) → mark_of (cell_at x.memory q) ≡ 2 → After q
  waiting_after q m = by_pick (bits_pick (open_since (history us) d.moment) 32)
    where
      d : LeftDuring z ts q
      d = v.waiting_left q (two_in_pool kd z ts p v q m) m

      by_pick :
          ((j : ℕ) → j < 32 → open_since (history us) d.moment j ≡ false) ⊎ ((j : ℕ) × (j < 32) × (open_since (history us) d.moment j ≡ true)) →
          After q
      by_pick (inl none) =
          let b = behind q d.moment d.session d.left d.still_open in
          freed (b.2.freed (still d.moment ∙ bits_none (open_since (history us) d.moment) 32 none))
      by_pick (inr some) =
          let o : T (open_since (history us) d.moment some.0) = subst T (sym some.2) tt in
          let w = waits_on q d.moment some.0 d.left o in
          waits (record { moment = d.moment; session = some.0; left = left_more z ts (turn (Close s) a y) d.moment q d.left; still_open = o })
          w.0 w.1 w.2

  after : (q : ℕ) → After q
  after q =
      elim (which (mark_of (cell_at x.memory q)) 2) [ inl m ↦ waiting_after q m | inr n ↦ as_was n (fr.others q n) ]

  kept : (q : ℕ) → In q (whole p) → cell_at y.memory q ≡ cell_at x.memory q
  kept q i = fr.others q (λ m. let n = live_mark x.memory q (tree_live x p v.tree q i) in let f : ⊥ = omega arith in f)

  pool_closed : PoolAfter kd z ts p (Close s) a y v fr.same kept
  pool_closed = record {
    fit = record { range = subst InRange (sym fr.same.as_many) v.fit.range; free = λ n m c. free n m c (after n) };
    marks = λ q i. marks q (pool_was kd z ts p (Close s) a y v fr.same kept q i) (after q);
    live = λ q i m. live q m (after q);
    waiting_left = λ q i m. left q m (after q);
    left_waits = waits_on;
    seats = λ j l.
        fr.others (suc j) (λ m. let n = ap mark_of (v.seats j l) in let f : ⊥ = omega arith in f) ∙ v.seats j l ∙
        ap (λ (k : K). readable (plain 3 k kd.filler)) (sym (cond_same (accepted a) (seat_key kd.filler j h)));
  }
    where
      free : (n m : ℕ) → cell_at y.memory n ≡ shut m → After n → m ≡ 0
      free n m c (as_was o e) = v.fit.free n m (sym e ∙ c)
      free n m c (freed e) = sym (ap mark_of c) ∙ e
      free n m c (waits d w e k) = absurd (let u : ◌≡◌ {A = ℕ} 0 1 = cc in let f : ⊥ = omega arith in f)

      marks : (q : ℕ) → InPool x.memory q → After q → mark_of (cell_at y.memory q) ≤ 2
      marks q i (as_was o e) = subst (λ (m : ℕ). m ≤ 2) (sym (ap mark_of e)) (v.marks q i)
      marks q i (freed e) = omega arith
      marks q i (waits d w e k) = let m : mark_of (cell_at y.memory q) ≡ 2 = ap mark_of e ∙ k in omega arith

      live : (q : ℕ) → mark_of (cell_at y.memory q) ≡ 1 → After q → mark_of (cell_at x.memory q) ≡ 1
      live q m (as_was o e) = sym (ap mark_of e) ∙ m
      live q m (freed e) = absurd (let f : ⊥ = omega arith in f)
      live q m (waits d w e k) = let n : mark_of (cell_at y.memory q) ≡ 2 = ap mark_of e ∙ k in absurd (let f : ⊥ = omega arith in f)

      left : (q : ℕ) → mark_of (cell_at y.memory q) ≡ 2 → After q → LeftDuring z us q
      left q m (as_was o e) = absurd (o (sym (ap mark_of e) ∙ m))
      left q m (freed e) = absurd (let f : ⊥ = omega arith in f)
      left q m (waits d w e k) = d

  close_rows : y.rows ≡ set x.rows s (as_closed (row_of x s))
  close_rows = (ex.accepted_does ok).answers.1

  session_closed : SessionAfter kd z ts (turn (Close s) a y) s
  session_closed = record {
    other_lookups = look_other;
    other_rows = λ j n.
        ap (λ (ws : List Row). get_or ws j (row closed 0 0)) close_rows ∙
        get_or-set_other x.rows s j (as_closed (row_of x s)) (row closed 0 0) (λ e. n (sym e));
    all_rows = ap length close_rows ∙ length-set x.rows s (as_closed (row_of x s)) ∙ v.all_rows;
    row =
        subst (λ (o : Option (Lookup K)). RowFits o (row_of y s)) (sym look_same)
        (ap (λ (ws : List Row). (get_or ws s (row closed 0 0)).stage) close_rows ∙
        ap (λ (w : Row). w.stage)
        (get_or-set_same x.rows s (as_closed (row_of x s)) (row closed 0 0) (let b = below in let m = v.all_rows in omega arith)));
    session = below;
    formed = λ l e. absurd (let g : ◌≡◌ {A = Option (Lookup K)} None (Some l) = sym look_same ∙ e in let u : ◌≡◌ {A = ℕ} 0 1 = cc in let f : ⊥ = omega arith in f);
  }
    where
      below : s < 32
      below = v.sessions s has_lookup.0 has_lookup.1

  closed_keeps : Inv kd z us p
  closed_keeps =
      quiet_keeps kd z ts p (Close s) a y v fr.same kept ex pool_closed (rows_change kd z ts p (Close s) a y v fr.same kept s session_closed)
      (set_stays kd h (Close s) a refl) (ap (λ (b : Outcome K F). last_told b (to_do h)) (ex.accepted_does ok).answers.0)

pub close_keeps : {K F : Type 0} (kd : Kind K F) → CloseKeeps kd
close_keeps kd z ts p s a y v ok ex fr = closed_keeps kd z ts p v s a y ok ex fr
