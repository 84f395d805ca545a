-- Refused calls and the calls of sessions keep the invariant, but for close.
use Rattle.std.proofs.Common.{◌≡◌, ℕ, zero, suc, ◌<◌, ◌≤◌, Bool, true, false, cond, eqb, ◌⊎◌, List, ◌∷◌, length, get_or, set, Some, None, Option, sym, refl, ap, ◌∙◌, subst, inl, inr, arith, length-set, get_or-set_other, get_or-set_same, eq-eqb, ne_eqb, Ok, Err}
use native.Mathlib.Decide.{dec_le}
use borrow.Author.Tests.{lt-leb}
use Rattle.store.specs.declared.node.Region.{Region}
use Rattle.store.specs.Cells.{shut, readable, mark_of, cell_at}
use Rattle.store.specs.Fits.{InRange, FitCells}
use Rattle.store.specs.Nodes.{plain}
use Rattle.trees.specs.Edits.{Place, whole, Edit}
use Rattle.trees.specs.Paths.{In}
use Rattle.runs.specs.declared.call.Argument.TheVariants.{Key}
use Rattle.requests.specs.declared.call.Call.{Call}
use Rattle.requests.specs.declared.call.Call.TheVariants.{Open, Step, Counts}
use Rattle.runs.specs.declared.call.Answer.TheVariants.{Pending, Opened, Closed, On, Nothing, Found, Nodes}
use Rattle.runs.specs.declared.call.Refusal.{Refusal}
use Rattle.runs.specs.declared.call.Refusal.TheVariants.{NoSession, HasLookup}
use Rattle.runs.specs.Calls.{Kind, edit_of, accepted, Outcome}
use Rattle.runs.specs.Histories.{History, changed, set_of, last_told, to_do, First, Lookup, lookup, lookup_after, first_told, with_step, begun_by, open_since, seat_key, seat_after}
use Rattle.runs.specs.States.{State, Cells, Row, row, closed, going, row_of}
use Rattle.runs.specs.Table.{Fits, no_session, has_lookup}
use Rattle.runs.specs.Effects.{Steps, no_place, finds, ends, goes_on, again_gave, again, StepTells, StepAnswers, Exact}
use Rattle.runs.specs.Runs.{Turn, turn, history, state}
use Rattle.moments.specs.Invariant.{RowOfOpen, RowFits, SameTree, FrameOpen, FrameNone, scene_at, Inv}
use Rattle.moments.specs.Theorems.{OpenKeeps, StepKeeps, CountsKeep, RefusedKeeps}
use Rattle.moments.proofs.Spelled.{live_mark, tree_live}
use Rattle.moments.proofs.Told.{history_length}
use Rattle.moments.proofs.Taken.{or_none, none_ill, none_fits}
use Rattle.moments.proofs.Quiet.{which, SessionAfter, quiet_keeps, rows_stay, rows_change, pool_stays}

-- HISTORIES after a call that is refused, or is no edit

refused_told : {K F : Type 0} (a : Outcome K F) (m : ℕ) → accepted a ≡ false → last_told a m ≡ m
refused_told (Ok b) m e = absurd (let z : ◌≡◌ {A = ℕ} 0 1 = cc in let f : ⊥ = omega arith in f)
refused_told (Err r) m e = refl

pub cond_same : {A : Type 0} (b : Bool) (x : A) → cond b x x ≡ x
cond_same true x = refl
cond_same false x = refl

pub set_stays :
    {K F : Type 0} (kd : Kind K F) (h : History K F) (c : Call K) (a : Outcome K F) → edit_of c ≡ None →
    set_of kd (record { call = c; answer = a } ∷ h) ≡ set_of kd h
set_stays kd h c a d =
    ap (λ (o : Option (Edit _ (Region _))). cond (accepted a) (changed kd o (set_of kd h)) (set_of kd h)) d ∙ cond_same (accepted a) (set_of kd h)

-- STEPS and their rows

again_fits :
    {K F : Type 0} (m : ℕ) (a : Outcome K F) (l : Lookup K) (f : First K) → l.first ≡ Some f → (w : Row) → RowFits (Some l) w →
    RowFits (with_step m a (Some l)) w
again_fits m a l f d w r =
    subst (λ (o : Option (First _)). RowOfOpen (record { key = l.key; since = l.since; steps = suc l.steps; first = first_told m a l.first }) (first_told m a o) w) (sym d)
    (subst (λ (o : Option (First _)). RowOfOpen l o w) d r)

module _ {K F : Type 0} (kd : Kind K F) where
  again_told : (f : First K) (m : ℕ) → last_told {F = F} (again f) m ≡ m
  again_told f m = by_gave f.gave
    where
      by_gave : (o : Option (Region K)) → last_told {F = F} (again_gave o f.steps) m ≡ m
      by_gave None = refl
      by_gave (Some w) = refl

  steps_told : (cs : Cells K) (k : K) (n q : ℕ) (a : Outcome K F) (w : Row) (m : ℕ) → Steps kd cs k n q a w → last_told a m ≡ m
  steps_told cs k n q a w m no_place = refl
  steps_told cs k n q a w m (finds _ u i c d) = refl
  steps_told cs k n q a w m (ends _ u i c d) = refl
  steps_told cs k n q a w m (goes_on _ j u i c d e) = refl

  steps_row :
      (m : ℕ) (cs : Cells K) (l b : Lookup K) (q : ℕ) (a : Outcome K F) (w : Row) → b.steps ≡ suc l.steps → Steps kd cs l.key l.steps q a w →
      RowOfOpen b (first_told m a None) w
  steps_row m cs l b q a w e no_place = (refl, refl, refl)
  steps_row m cs l b q a w e (finds _ u i c d) = (refl, refl, i)
  steps_row m cs l b q a w e (ends _ u i c d) = (refl, refl, refl)
  steps_row m cs l b q a w e (goes_on _ j u i c d g) = (refl, sym e)

  steps_fit :
      (m : ℕ) (cs : Cells K) (l : Lookup K) (q : ℕ) (a : Outcome K F) (w : Row) → l.first ≡ None → Steps kd cs l.key l.steps q a w →
      RowFits (with_step m a (Some l)) w
  steps_fit m cs l q a w d t =
      let b : Lookup K = record { key = l.key; since = l.since; steps = suc l.steps; first = first_told m a l.first } in
      subst (λ (o : Option (First K)). RowOfOpen b (first_told m a o) w) (sym d) (steps_row m cs l b q a w refl t)

module _ {K F : Type 0} (kd : Kind K F) (z : State (Cells K)) (ts : List (Turn (Cells K) K F)) (p : Place ℕ (Region K)) (v : Inv kd z ts p) where
  abbrev x : State (Cells K)
  x = state z ts

  abbrev h : History K F
  h = history ts

  -- a node of the tree is none that may be written
  live_kept :
      (y : State (Cells K)) → ((q : ℕ) → (cell_at y.memory q ≡ cell_at x.memory q) ⊎
      ((mark_of (cell_at x.memory q) ≡ 0) × (mark_of (cell_at y.memory q) ≡ 0))) → (q : ℕ) → In q (whole p) →
      cell_at y.memory q ≡ cell_at x.memory q
  live_kept y cells q i =
      elim (cells q) [
        | inl e ↦ e
        | inr e ↦ let m = live_mark x.memory q (tree_live x p v.tree q i) in let n = e.0 in absurd (let f : ⊥ = omega arith in f)
      ]

  -- the store stays fit where nothing but free nodes is written
  fit_stays :
      (y : State (Cells K)) → length y.memory ≡ length x.memory → ((q : ℕ) → (cell_at y.memory q ≡ cell_at x.memory q) ⊎
      ((mark_of (cell_at x.memory q) ≡ 0) × (mark_of (cell_at y.memory q) ≡ 0))) → FitCells y.memory
  fit_stays y m cells = record {
    range = subst InRange (sym m) v.fit.range;
    free = λ n k c. elim (cells n) [ inl e ↦ v.fit.free n k (sym e ∙ c) | inr e ↦ sym (ap mark_of c) ∙ e.1 ];
  }

  not_seat :
      (y : State (Cells K)) → ((q : ℕ) → (cell_at y.memory q ≡ cell_at x.memory q) ⊎
      ((mark_of (cell_at x.memory q) ≡ 0) × (mark_of (cell_at y.memory q) ≡ 0))) → (s : ℕ) → s < 32 →
      cell_at y.memory (suc s) ≡ cell_at x.memory (suc s)
  not_seat y cells s l =
      elim (cells (suc s)) [
        | inl e ↦ e
        | inr e ↦ let m = ap mark_of (v.seats s l) in let n = e.0 in absurd (let f : ⊥ = omega arith in f)
      ]

  -- REFUSED

  refused : (c : Call K) (a : Outcome K F) (y : State (Cells K)) → accepted a ≡ false → Exact kd (scene_at kd z ts p) c a y p →
      length y.memory ≡ length x.memory → Inv kd z (turn c a y ∷ ts) p
  refused c a y out ex m =
      let u = ex.refused_alters out in
      let same : SameTree x y = record { root = u.same_root; pending = u.same_pending; as_many = m } in
      let kept = live_kept y u.same_cells in
      let look : (s : ℕ) → lookup s (history (turn c a y ∷ ts)) ≡ lookup s h =
      λ s. ap (λ (b : Bool). cond b (lookup_after s (suc (length h)) c a (lookup s h)) (lookup s h)) out in
      quiet_keeps kd z ts p c a y v same kept ex
      (pool_stays kd z ts p c a y v same kept (fit_stays y m u.same_cells) (λ q i. u.same_cells q) (λ i s l. ap (begun_by i) (look s))
      (λ s l.
      not_seat y u.same_cells s l ∙ v.seats s l ∙
      ap (λ (b : Bool). readable (plain 3 (cond b (seat_after s c (seat_key kd.filler s h)) (seat_key kd.filler s h)) kd.filler)) (sym out)))
      (rows_stay kd z ts p c a y v same kept u.same_rows look)
      (ap (λ (b : Bool). cond b (changed kd (edit_of c) (set_of kd h)) (set_of kd h)) out) (refused_told a (to_do h) out)

  -- COUNTS

  counted : (a : Outcome K F) (y : State (Cells K)) → accepted a ≡ true → Exact kd (scene_at kd z ts p) Counts a y p → FrameNone x y →
      Inv kd z (turn Counts a y ∷ ts) p
  counted a y ok ex fr =
      let d = (ex.accepted_does ok).answers in
      let same = fr.same in
      let kept : (q : ℕ) → In q (whole p) → cell_at y.memory q ≡ cell_at x.memory q = λ q i. fr.cells q in
      let look : (s : ℕ) → lookup s (history (turn Counts a y ∷ ts)) ≡ lookup s h = λ s. cond_same (accepted a) (lookup s h) in
      quiet_keeps kd z ts p Counts a y v same kept ex
      (pool_stays kd z ts p Counts a y v same kept (fit_stays y same.as_many (λ q. inl (fr.cells q))) (λ q i. inl (fr.cells q))
      (λ i s l. ap (begun_by i) (look s))
      (λ s l.
      fr.cells (suc s) ∙ v.seats s l ∙
      ap (λ (k : K). readable (plain 3 k kd.filler)) (sym (cond_same (accepted a) (seat_key kd.filler s h)))))
      (rows_stay kd z ts p Counts a y v same kept d.1 look) (set_stays kd h Counts a refl) (ap (λ (b : Outcome K F). last_told b (to_do h)) d.0)

  -- OPEN

  module _ (s : ℕ) (k : K) (a : Outcome K F) (y : State (Cells K)) (ok : accepted a ≡ true) (ex : Exact kd (scene_at kd z ts p) (Open s k) a y p)
      (fr : FrameOpen s k kd.filler x y) where
    abbrev opening : Turn (Cells K) K F
    opening = turn (Open s k) a y

    none_open : (r : Refusal F) → Fits kd (scene_at kd z ts p) (Open s k) r → ⊥
    none_open = none_fits kd (scene_at kd z ts p) (Open s k) a y p ex ok

    open_below : s < 32
    open_below = by_dec (dec_le s 31)
      where
        by_dec : Dec (s ≤ 31) → s < 32
        by_dec (yes l) = omega arith
        by_dec (no l) = absurd (none_open NoSession (no_session (Open s k) s refl (omega arith)))

    had_none : lookup s h ≡ None
    had_none = by_lookup (lookup s h) refl
      where
        by_lookup : (o : Option (Lookup K)) → lookup s h ≡ o → o ≡ None
        by_lookup None e = refl
        by_lookup (Some l) e = absurd (none_open HasLookup (has_lookup s k l e))

    abbrev opened : Lookup K
    opened = record { key = k; since = suc (length h); steps = 0; first = None }

    open_look : (j : ℕ) → lookup j (history (opening ∷ ts)) ≡ cond (eqb s j) (Some opened) (lookup j h)
    open_look j = ap (λ (b : Bool). cond b (cond (eqb s j) (Some opened) (lookup j h)) (lookup j h)) ok

    open_same : lookup s (history (opening ∷ ts)) ≡ Some opened
    open_same = open_look s ∙ ap (λ (b : Bool). cond b (Some opened) (lookup s h)) (eq-eqb s s refl)

    open_other : (j : ℕ) → (s ≡ j → ⊥) → lookup j (history (opening ∷ ts)) ≡ lookup j h
    open_other j n = open_look j ∙ ap (λ (b : Bool). cond b (Some opened) (lookup j h)) (ne_eqb s j n)

    open_key : (j : ℕ) → seat_key kd.filler j (history (opening ∷ ts)) ≡ cond (eqb s j) k (seat_key kd.filler j h)
    open_key j = ap (λ (b : Bool). cond b (cond (eqb s j) k (seat_key kd.filler j h)) (seat_key kd.filler j h)) ok

    open_rows : y.rows ≡ set x.rows s (row going x.root 0)
    open_rows = (ex.accepted_does ok).answers.1

    open_session : SessionAfter kd z ts opening s
    open_session = record {
      other_lookups = open_other;
      other_rows = λ j n.
          ap (λ (ws : List Row). get_or ws j (row closed 0 0)) open_rows ∙
          get_or-set_other x.rows s j (row going x.root 0) (row closed 0 0) (λ e. n (sym e));
      all_rows = ap length open_rows ∙ length-set x.rows s (row going x.root 0) ∙ v.all_rows;
      row =
          subst (λ (o : Option (Lookup K)). RowFits o (row_of y s)) (sym open_same)
          (subst (RowFits (Some opened))
          (sym (ap (λ (ws : List Row). get_or ws s (row closed 0 0)) open_rows ∙
          get_or-set_same x.rows s (row going x.root 0) (row closed 0 0) (let b = open_below in let m = v.all_rows in omega arith))) (refl, refl));
      session = open_below;
      formed = λ l e.
          let g : Some opened ≡ Some l = sym open_same ∙ e in
          let f : k ≡ l.key = cc in
          ap kd.fault (sym f) ∙ (or_none Key (kd.fault k) None (none_ill kd (scene_at kd z ts p) (Open s k) none_open)).0;
    }

    open_cells : (q : ℕ) → 32 < q → cell_at y.memory q ≡ cell_at x.memory q
    open_cells q l = fr.others q (omega arith) (λ e. let b = open_below in let f : ⊥ = omega arith in f)

    open_since_same : (i j : ℕ) → i < length ts → open_since (history (opening ∷ ts)) i j ≡ open_since h i j
    open_since_same i j l =
        elim (which s j) [
          | inl e ↦
              subst (λ (n : ℕ). open_since (history (opening ∷ ts)) i n ≡ open_since h i n) e
              (ap (begun_by i) open_same ∙ lt-leb (suc (length h)) i (let m = history_length ts in omega arith) ∙ sym (ap (begun_by i) had_none))
          | inr n ↦ ap (begun_by i) (open_other j n)
        ]

    open_fit : FitCells y.memory
    open_fit = record { range = subst InRange (sym fr.same.as_many) v.fit.range; free = free }
      where
        at : (n m : ℕ) → 1 ≤ n → cell_at y.memory n ≡ shut m → m ≡ 0
        at n m l c =
            elim (which (suc s) n) [
              | inl e ↦
                  let d : cell_at y.memory n ≡ readable (plain 3 k kd.filler) = ap (cell_at y.memory) (sym e) ∙ fr.seat in
                  absurd (let u : ◌≡◌ {A = ℕ} 0 1 = cc in let f : ⊥ = omega arith in f)
              | inr o ↦ v.fit.free n m (sym (fr.others n l (λ e. o (sym e))) ∙ c)
            ]

        free : (n m : ℕ) → cell_at y.memory n ≡ shut m → m ≡ 0
        free zero m c = at 1 m (omega arith) c
        free (suc n) m c = at (suc n) m (omega arith) c

    open_seats : (j : ℕ) → j < 32 → cell_at y.memory (suc j) ≡ readable (plain 3 (seat_key kd.filler j (history (opening ∷ ts))) kd.filler)
    open_seats j l =
        elim (which s j) [
          | inl e ↦
              subst (λ (n : ℕ). cell_at y.memory (suc n) ≡ readable (plain 3 (seat_key kd.filler n (history (opening ∷ ts))) kd.filler)) e
              (fr.seat ∙ ap (λ (i : K). readable (plain 3 i kd.filler))
              (sym (open_key s ∙ ap (λ (b : Bool). cond b k (seat_key kd.filler s h)) (eq-eqb s s refl))))
          | inr n ↦
              fr.others (suc j) (omega arith) (λ e. n (let d : s ≡ j = omega arith in d)) ∙ v.seats j l ∙
              ap (λ (i : K). readable (plain 3 i kd.filler))
              (sym (open_key j ∙ ap (λ (b : Bool). cond b k (seat_key kd.filler j h)) (ne_eqb s j n)))
        ]

    opened_keeps : Inv kd z (opening ∷ ts) p
    opened_keeps =
        let kept : (q : ℕ) → In q (whole p) → cell_at y.memory q ≡ cell_at x.memory q =
        λ q i. open_cells q (tree_live x p v.tree q i).in_pool.past_seats in
        quiet_keeps kd z ts p (Open s k) a y v fr.same kept ex
        (pool_stays kd z ts p (Open s k) a y v fr.same kept open_fit (λ q i. inl (open_cells q i.past_seats)) open_since_same open_seats)
        (rows_change kd z ts p (Open s k) a y v fr.same kept s open_session) (set_stays kd h (Open s k) a refl)
        (ap (λ (b : Outcome K F). last_told b (to_do h)) (ex.accepted_does ok).answers.0)

  -- STEP

  module _ (s : ℕ) (a : Outcome K F) (y : State (Cells K)) (ok : accepted a ≡ true) (ex : Exact kd (scene_at kd z ts p) (Step s) a y p)
      (fr : FrameNone x y) where
    abbrev stepping : Turn (Cells K) K F
    stepping = turn (Step s) a y

    abbrev moment : ℕ
    moment = suc (length h)

    step_look : (j : ℕ) → lookup j (history (stepping ∷ ts)) ≡ cond (eqb s j) (with_step moment a (lookup j h)) (lookup j h)
    step_look j = ap (λ (b : Bool). cond b (cond (eqb s j) (with_step moment a (lookup j h)) (lookup j h)) (lookup j h)) ok

    step_same : lookup s (history (stepping ∷ ts)) ≡ with_step moment a (lookup s h)
    step_same = step_look s ∙ ap (λ (b : Bool). cond b (with_step moment a (lookup s h)) (lookup s h)) (eq-eqb s s refl)

    step_other : (j : ℕ) → (s ≡ j → ⊥) → lookup j (history (stepping ∷ ts)) ≡ lookup j h
    step_other j n = step_look j ∙ ap (λ (b : Bool). cond b (with_step moment a (lookup j h)) (lookup j h)) (ne_eqb s j n)

    -- what a step answers and does to its row
    record Stepped : Type 0 where
      was : Lookup K
      is : lookup s h ≡ Some was
      told : last_told a (to_do h) ≡ to_do h
      all_rows : length y.rows ≡ 32
      other_rows : (j : ℕ) → (s ≡ j → ⊥) → row_of y j ≡ row_of x j
      fits : RowFits (with_step moment a (Some was)) (row_of y s)

    by_first : (l : Lookup K) (o : Option (First K)) → lookup s h ≡ Some l → l.first ≡ o → StepTells kd x s l o a y.rows → Stepped
    by_first l (Some f) e d t = record {
      was = l;
      is = e;
      told = ap (λ (b : Outcome K F). last_told b (to_do h)) t.0 ∙ again_told kd f (to_do h);
      all_rows = ap length t.1 ∙ v.all_rows;
      other_rows = λ j n. ap (λ (ws : List Row). get_or ws j (row closed 0 0)) t.1;
      fits =
          again_fits moment a l f d (row_of y s)
          (subst (λ (ws : List Row). RowFits (Some l) (get_or ws s (row closed 0 0))) (sym t.1)
          (subst (λ (q : Option (Lookup K)). RowFits q (row_of x s)) e (v.rows s)));
    }
    by_first l None e d t = record {
      was = l;
      is = e;
      told = steps_told kd x.memory l.key l.steps (row_of x s).place a t.0 (to_do h) t.1;
      all_rows = ap length t.2 ∙ length-set x.rows s t.0 ∙ v.all_rows;
      other_rows = λ j n.
          ap (λ (ws : List Row). get_or ws j (row closed 0 0)) t.2 ∙ get_or-set_other x.rows s j t.0 (row closed 0 0) (λ g. n (sym g));
      fits =
          subst (RowFits (with_step moment a (Some l)))
          (sym (ap (λ (ws : List Row). get_or ws s (row closed 0 0)) t.2 ∙
          get_or-set_same x.rows s t.0 (row closed 0 0) (let b = v.sessions s l e in let m = v.all_rows in omega arith)))
          (steps_fit kd moment x.memory l (row_of x s).place a t.0 d t.1);
    }

    stepped : Stepped
    stepped = by_lookup (lookup s h) refl (ex.accepted_does ok).answers
      where
        by_lookup : (o : Option (Lookup K)) → lookup s h ≡ o → StepAnswers kd x s o a y.rows → Stepped
        by_lookup None e t = absurd t
        by_lookup (Some l) e t = by_first l l.first e refl t

    step_is : lookup s (history (stepping ∷ ts)) ≡ with_step moment a (Some stepped.was)
    step_is = step_same ∙ ap (with_step moment a) stepped.is

    step_session : SessionAfter kd z ts stepping s
    step_session = record {
      other_lookups = step_other;
      other_rows = stepped.other_rows;
      all_rows = stepped.all_rows;
      row = subst (λ (o : Option (Lookup K)). RowFits o (row_of y s)) (sym step_is) stepped.fits;
      session = v.sessions s stepped.was stepped.is;
      formed = λ l e.
          let g : with_step moment a (Some stepped.was) ≡ Some l = sym step_is ∙ e in
          let f : stepped.was.key ≡ l.key = cc in
          ap kd.fault (sym f) ∙ v.formed s stepped.was stepped.is;
    }

    step_since_same : (i j : ℕ) → open_since (history (stepping ∷ ts)) i j ≡ open_since h i j
    step_since_same i j =
        elim (which s j) [
          | inl e ↦
              subst (λ (n : ℕ). open_since (history (stepping ∷ ts)) i n ≡ open_since h i n) e
              (ap (begun_by i) step_is ∙ sym (ap (begun_by i) stepped.is))
          | inr n ↦ ap (begun_by i) (step_other j n)
        ]

    stepped_keeps : Inv kd z (stepping ∷ ts) p
    stepped_keeps =
        let kept : (q : ℕ) → In q (whole p) → cell_at y.memory q ≡ cell_at x.memory q = λ q i. fr.cells q in
        quiet_keeps kd z ts p (Step s) a y v fr.same kept ex
        (pool_stays kd z ts p (Step s) a y v fr.same kept (fit_stays y fr.same.as_many (λ q. inl (fr.cells q))) (λ q i. inl (fr.cells q))
        (λ i j l. step_since_same i j)
        (λ j l.
        fr.cells (suc j) ∙ v.seats j l ∙
        ap (λ (k : K). readable (plain 3 k kd.filler)) (sym (cond_same (accepted a) (seat_key kd.filler j h)))))
        (rows_change kd z ts p (Step s) a y v fr.same kept s step_session) (set_stays kd h (Step s) a refl) stepped.told

pub refused_keeps : {K F : Type 0} (kd : Kind K F) → RefusedKeeps kd
refused_keeps kd z ts p c a y v out ex m = refused kd z ts p v c a y out ex m

pub counts_keep : {K F : Type 0} (kd : Kind K F) → CountsKeep kd
counts_keep kd z ts p a y v ok ex fr = counted kd z ts p v a y ok ex fr

pub open_keeps : {K F : Type 0} (kd : Kind K F) → OpenKeeps kd
open_keeps kd z ts p s k a y v ok ex fr = opened_keeps kd z ts p v s k a y ok ex fr

pub step_keeps : {K F : Type 0} (kd : Kind K F) → StepKeeps kd
step_keeps kd z ts p s a y v ok ex fr = stepped_keeps kd z ts p v s a y ok ex fr
