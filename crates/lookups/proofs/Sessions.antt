-- How a call changes the lookup of a session and its row.
use Rattle.std.proofs.Common.{◌≡◌, ℕ, suc, ◌<◌, Bool, true, false, cond, eqb, List, ◌∷◌, length, get_or, set, Some, None, Option, refl, ap, ◌∙◌, subst, arith, length-set, get_or-set_other, get_or-set_same, eqb-true}
use borrow.Author.Tests.{eqb-false}
use Rattle.store.specs.declared.node.Region.{Region}
use Rattle.trees.specs.Edits.{Place, whole}
use Rattle.runs.specs.declared.call.Argument.TheVariants.{Key}
use Rattle.runs.specs.declared.call.Refusal.{Refusal}
use Rattle.runs.specs.declared.call.Refusal.TheVariants.{NoSession, IllFormed}
use Rattle.requests.specs.declared.call.Call.{Call}
use Rattle.requests.specs.declared.call.Call.TheVariants.{Put, Drop, Split, Advance, Open, Step, Close, Counts}
use Rattle.runs.specs.Calls.{Kind, accepted, Outcome}
use Rattle.runs.specs.Histories.{History, First, Lookup, lookup, lookup_after, with_step, first_told}
use Rattle.runs.specs.States.{State, Cells, Row, row, closed, going, as_closed, row_of}
use Rattle.runs.specs.Table.{Scene, session_of, Fits, no_session, ill_formed}
use Rattle.runs.specs.Effects.{StepTells, StepAnswers, Done, Exact}

module _ {K F : Type 0} (kd : Kind K F) (h : History K F) (x : State (Cells K)) (p : Place ℕ (Region K)) (a : Outcome K F) (y : State (Cells K)) (p' : Place ℕ (Region K)) where
  abbrev scene : Scene K F
  scene = record { past = h; state = x; place = p }

  -- the rows stay, or that of the call's session changes
  data RowsAfter (c : Call K) : Type 0 where
    all_same : y.rows ≡ x.rows → RowsAfter c
    one_set : (j : ℕ) (w : Row) → session_of c ≡ Some j → y.rows ≡ set x.rows j w → RowsAfter c

  told_rows : (j : ℕ) (l : Lookup K) (f : Option (First K)) → StepTells kd x j l f a y.rows → RowsAfter (Step j)
  told_rows j l (Some f) t = all_same t.1
  told_rows j l None t = one_set j t.0 refl t.2

  step_rows : (j : ℕ) (o : Option (Lookup K)) → StepAnswers kd x j o a y.rows → RowsAfter (Step j)
  step_rows j None t = absurd t
  step_rows j (Some l) t = told_rows j l l.first t

  done_rows : (c : Call K) → Done kd scene c a y p' → RowsAfter c
  done_rows (Put low high n) d = all_same d.answers.1
  done_rows (Drop k) d = all_same d.answers.1
  done_rows (Split b m n) d = all_same d.answers.1
  done_rows Advance d = all_same d.answers.1
  done_rows (Open s k) d = one_set s (row going x.root 0) refl d.answers.1
  done_rows (Step s) d = step_rows s (lookup s h) d.answers
  done_rows (Close s) d = one_set s (as_closed (row_of x s)) refl d.answers.1
  done_rows Counts d = all_same d.answers.1

  rows_after : (c : Call K) → Exact kd scene c a y p' → RowsAfter c
  rows_after c e = by_answer (accepted a) refl
    where
      by_answer : (b : Bool) → accepted a ≡ b → RowsAfter c
      by_answer true t = done_rows c (e.accepted_does t)
      by_answer false t = all_same (e.refused_alters t).same_rows

  pub rows_length : (c : Call K) → Exact kd scene c a y p' → length y.rows ≡ length x.rows
  rows_length c e = by_rows (rows_after c e)
    where
      by_rows : RowsAfter c → length y.rows ≡ length x.rows
      by_rows (all_same r) = ap length r
      by_rows (one_set j w i r) = ap length r ∙ length-set x.rows j w

  -- the row of another session stays
  row_other : (c : Call K) (s : ℕ) → ((j : ℕ) → session_of c ≡ Some j → s ≡ j → ⊥) → RowsAfter c → row_of y s ≡ row_of x s
  row_other c s n (all_same r) = ap (λ (ws : List Row). get_or ws s (row closed 0 0)) r
  row_other c s n (one_set j w i r) = ap (λ (ws : List Row). get_or ws s (row closed 0 0)) r ∙ get_or-set_other x.rows j s w (row closed 0 0) (n j i)

  row_none : (c : Call K) (s : ℕ) → session_of c ≡ None → RowsAfter c → row_of y s ≡ row_of x s
  row_none c s e r = row_other c s (λ j q i. let z : ◌≡◌ {A = ℕ} 0 1 = cc in omega arith) r

  -- THE LOOKUP of session s after an accepted or a refused call, if it has one: the one that it had, one just opened, or one that has stepped
  pub data How (c : Call K) (s : ℕ) (l' : Lookup K) : Type 0 where
    same : lookup s h ≡ Some l' → row_of y s ≡ row_of x s → How c s l'
    opened :
        (k : K) → l' ≡ record { key = k; since = suc (length h); steps = 0; first = None } → (row_of y s).place ≡ x.root → kd.fault k ≡ None →
        whole p' ≡ whole p → s < 32 → How c s l'
    stepped :
        (l : Lookup K) → lookup s h ≡ Some l →
        l' ≡ record { key = l.key; since = l.since; steps = suc l.steps; first = first_told (suc (length h)) a l.first } →
        StepTells kd x s l l.first a y.rows → s < 32 → How c s l'

  module _ (table : length x.rows ≡ 32) where
    pub row_set : (s : ℕ) (w : Row) → s < 32 → y.rows ≡ set x.rows s w → row_of y s ≡ w
    row_set s w i r = ap (λ (ws : List Row). get_or ws s (row closed 0 0)) r ∙ get_or-set_same x.rows s w (row closed 0 0) (omega arith)

    in_table : (c : Call K) (s : ℕ) → session_of c ≡ Some s → ((r : Refusal F) → Fits kd scene c r → ⊥) → s < 32
    in_table c s e n = let o : 31 < s → ⊥ = λ i. n NoSession (no_session c s e i) in omega arith

    formed : (s : ℕ) (k : K) → ((r : Refusal F) → Fits kd scene (Open s k) r → ⊥) → kd.fault k ≡ None
    formed s k n = by_fault (kd.fault k) refl
      where
        by_fault : (o : Option F) → kd.fault k ≡ o → o ≡ None
        by_fault None e = refl
        by_fault (Some f) e = absurd (n (IllFormed Key f) (ill_formed (Open s k) Key f (rw e refl)))

    open_how :
        (j : ℕ) (k : K) (s : ℕ) (l' : Lookup K) → Done kd scene (Open j k) a y p' → ((r : Refusal F) → Fits kd scene (Open j k) r → ⊥) →
        (b : Bool) → eqb j s ≡ b → cond b (Some (record { key = k; since = suc (length h); steps = 0; first = None })) (lookup s h) ≡ Some l' →
        How (Open j k) s l'
    open_how j k s l' d n false t e = same e (row_other (Open j k) s (λ i q r. eqb-false j s t (cc)) (done_rows (Open j k) d))
    open_how j k s l' d n true t e =
        let js = eqb-true j s t in
        let i = in_table (Open j k) j refl n in
        let r = subst (λ (i : ℕ). y.rows ≡ set x.rows i (row going x.root 0)) js d.answers.1 in
        opened k (cc) (ap (λ (w : Row). w.place) (row_set s (row going x.root 0) (omega arith) r)) (formed j k n) d.tree_made (omega arith)

    step_how :
        (j s : ℕ) (l' : Lookup K) → Done kd scene (Step j) a y p' → ((r : Refusal F) → Fits kd scene (Step j) r → ⊥) →
        (b : Bool) → eqb j s ≡ b → cond b (with_step (suc (length h)) a (lookup s h)) (lookup s h) ≡ Some l' → How (Step j) s l'
    step_how j s l' d n false t e = same e (row_other (Step j) s (λ i q r. eqb-false j s t (cc)) (done_rows (Step j) d))
    step_how j s l' d n true t e =
        let js = eqb-true j s t in
        let i = in_table (Step j) j refl n in
        by_lookup (lookup s h) refl e (subst (λ (i : ℕ). StepAnswers kd x i (lookup i h) a y.rows) js d.answers) (omega arith)
      where
        by_lookup :
            (o : Option (Lookup K)) → lookup s h ≡ o → with_step (suc (length h)) a o ≡ Some l' → StepAnswers kd x s (lookup s h) a y.rows → s < 32 →
            How (Step j) s l'
        by_lookup None q e u i = let z : ◌≡◌ {A = ℕ} 0 1 = cc in absurd (omega arith)
        by_lookup (Some l) q e u i = stepped l q (cc) (subst (λ (o : Option (Lookup K)). StepAnswers kd x s o a y.rows) q u) i

    close_how :
        (j s : ℕ) (l' : Lookup K) → Done kd scene (Close j) a y p' → (b : Bool) → eqb j s ≡ b → cond b None (lookup s h) ≡ Some l' → How (Close j) s l'
    close_how j s l' d false t e = same e (row_other (Close j) s (λ i q r. eqb-false j s t (cc)) (done_rows (Close j) d))
    close_how j s l' d true t e = let z : ◌≡◌ {A = ℕ} 0 1 = cc in absurd (omega arith)

    done_how :
        (c : Call K) (s : ℕ) (l' : Lookup K) → Done kd scene c a y p' → ((r : Refusal F) → Fits kd scene c r → ⊥) →
        lookup_after s (suc (length h)) c a (lookup s h) ≡ Some l' → How c s l'
    done_how (Put low high m) s l' d n e = same e (row_none (Put low high m) s refl (done_rows (Put low high m) d))
    done_how (Drop k) s l' d n e = same e (row_none (Drop k) s refl (done_rows (Drop k) d))
    done_how (Split b m i) s l' d n e = same e (row_none (Split b m i) s refl (done_rows (Split b m i) d))
    done_how Advance s l' d n e = same e (row_none Advance s refl (done_rows Advance d))
    done_how (Open j k) s l' d n e = open_how j k s l' d n (eqb j s) refl e
    done_how (Step j) s l' d n e = step_how j s l' d n (eqb j s) refl e
    done_how (Close j) s l' d n e = close_how j s l' d (eqb j s) refl e
    done_how Counts s l' d n e = same e (row_none Counts s refl (done_rows Counts d))

    pub how : (c : Call K) (s : ℕ) (l' : Lookup K) → Exact kd scene c a y p' → lookup s (record { call = c; answer = a } ∷ h) ≡ Some l' → How c s l'
    how c s l' ex e = by_answer (accepted a) refl e
      where
        none_fits : accepted a ≡ true → (r : Refusal F) → Fits kd scene c r → ⊥
        none_fits t r f = let u = ex.refused_if r f in let z : ◌≡◌ {A = ℕ} 0 1 = cc in omega arith

        by_answer : (b : Bool) → accepted a ≡ b → cond b (lookup_after s (suc (length h)) c a (lookup s h)) (lookup s h) ≡ Some l' → How c s l'
        by_answer true t e = done_how c s l' (ex.accepted_does t) (none_fits t) e
        by_answer false t e = same e (ap (λ (ws : List Row). get_or ws s (row closed 0 0)) (ex.refused_alters t).same_rows)
