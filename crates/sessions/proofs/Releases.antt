-- The two loops of close: the one that reads every waiting node, and the one that releases the session.
use Rattle.std.proofs.Common.{◌≡◌, ℕ, zero, suc, ◌+◌, ◌-◌, ◌<◌, ◌≤◌, Bool, true, false, cond, ◌&&◌, eqb, List, [], ◌∷◌, length, get_or, drop, Some, None, Ok, Err, Option, Result, sym, refl, ap, ◌∙◌, subst, arith}
use Rattle.std.proofs.lemmas.List.{drop_all, get_or-drop}
use Rattle.std.proofs.lemmas.Bool.{lt-ltb, le-ltb}
use Rattle.store.specs.declared.node.Node.{Node}
use Rattle.store.specs.declared.fault.StoreFault.{StoreFault}
use Rattle.store.specs.declared.fault.Function.TheVariants.{Read}
use Rattle.store.specs.declared.fault.Cause.TheVariants.{Closed}
use Rattle.store.specs.Faults.{fault_at}
use Rattle.store.specs.Cells.{Cell, shut, readable, cell_at, mark_of, shown, Written}
use Rattle.store.proofs.Insides.{count_is, mark_inside, read_inside}
use Rattle.sessions.specs.Writings.{Rewritten}
use Rattle.sessions.specs.Waiting.{bit, without_bit, waiting_for, released, release, waiting_marked, waiting_at, closed_at, first_closed, closed_waiting, all_read}
use Rattle.sessions.proofs.Sweeping.{inside, next_drop, upto, sweep_writes, sweep_passes, sweep_meets}

module _ {K : Type 0} where
  -- what is answered of a waiting node, from its cell
  abbrev waiting_cell : ℕ → Cell K → Result (Option (Node K)) StoreFault
  waiting_cell n (shut m) = cond (eqb m 2) (Err (fault_at Read n Closed)) (Ok None)
  waiting_cell n (readable v) = cond (eqb v.mark 2) (Ok (Some v)) (Ok None)

  by_cell : (n : ℕ) (c : Cell K) → waiting_marked (Ok (mark_of c)) (shown n c) ≡ waiting_cell n c
  by_cell n (shut m) = refl
  by_cell n (readable v) = refl

  waiting_inside : (cs : List (Cell K)) (n : ℕ) → 0 < n → n ≤ length cs → waiting_at cs n ≡ waiting_cell n (cell_at cs n)
  unfolding waiting_at
  waiting_inside cs n some h =
      let e = inside n (length cs) some h in
      rw (mark_inside cs n e, read_inside cs n e) (by_cell n (cell_at cs n))

  -- THE READING

  closed_next : (cs : List (Cell K)) (n : ℕ) → 0 < n → n ≤ length cs → first_closed n (drop (n - 1) cs) ≡ closed_at n (cell_at cs n) (first_closed (n + 1) (drop n cs))
  closed_next cs n some h = ap (first_closed n) (next_drop cs n some h)

  passes_by : (b : Bool) (n : ℕ) (o : Option (Node K)) (e : StoreFault) (rest : Option ℕ) → Ok o ≡ cond b (Err e) (Ok None) → cond b (Some n) rest ≡ rest
  passes_by true n o e rest h = let z : ◌≡◌ {A = ℕ} 0 1 = cc in let w : ⊥ = omega arith in elim w [ ]
  passes_by false n o e rest h = refl

  passes : (c : Cell K) (n : ℕ) (o : Option (Node K)) (rest : Option ℕ) → Ok o ≡ waiting_cell n c → closed_at n c rest ≡ rest
  passes (shut m) n o rest h = passes_by (eqb m 2) n o (fault_at Read n Closed) rest h
  passes (readable v) n o rest h = refl

  stops_shut : (b : Bool) (n : ℕ) (x e : StoreFault) (rest : Option ℕ) → ◌≡◌ {A = Result (Option (Node K)) StoreFault} (Err x) (cond b (Err e) (Ok None)) → (cond b (Some n) rest ≡ Some n) × (x ≡ e)
  stops_shut true n x e rest h = (refl, cc)
  stops_shut false n x e rest h = let z : ◌≡◌ {A = ℕ} 0 1 = cc in let w : ⊥ = omega arith in elim w [ ]

  never_stops : (b : Bool) (x : StoreFault) (v : Node K) → Err x ≡ cond b (Ok (Some v)) (Ok None) → ⊥
  never_stops true x v h = let z : ◌≡◌ {A = ℕ} 0 1 = cc in omega arith
  never_stops false x v h = let z : ◌≡◌ {A = ℕ} 0 1 = cc in omega arith

  stops : (c : Cell K) (n : ℕ) (x : StoreFault) (rest : Option ℕ) → Err x ≡ waiting_cell n c → (closed_at n c rest ≡ Some n) × (x ≡ fault_at Read n Closed)
  stops (shut m) n x rest h = stops_shut (eqb m 2) n x (fault_at Read n Closed) rest h
  stops (readable v) n x rest h = let w : ⊥ = never_stops (eqb v.mark 2) x v h in elim w [ ]

  pub reading_starts : (cs : List (Cell K)) → first_closed 33 (drop 32 cs) ≡ closed_waiting cs
  unfolding closed_waiting
  reading_starts cs = refl

  -- the closed waiting node, if any, is still to come
  pub reading_goes_on : (cs : List (Cell K)) (n : ℕ) (o : Option (Node K)) → 0 < n → n ≤ length cs → Ok o ≡ waiting_at cs n →
      first_closed n (drop (n - 1) cs) ≡ closed_waiting cs → (m : ℕ) → m ≡ n → first_closed (n + 1) (drop m cs) ≡ closed_waiting cs
  reading_goes_on cs n o some h e was m same =
      ap (λ k. first_closed (n + 1) (drop k cs)) same ∙ sym (passes (cell_at cs n) n o _ (e ∙ waiting_inside cs n some h)) ∙ sym (closed_next cs n some h) ∙ was

  pub reading_stops : (cs : List (Cell K)) (n : ℕ) (x : StoreFault) → 0 < n → n ≤ length cs → Err x ≡ waiting_at cs n →
      first_closed n (drop (n - 1) cs) ≡ closed_waiting cs → Err x ≡ all_read (closed_waiting cs)
  reading_stops cs n x some h e was =
      let p = stops (cell_at cs n) n x (first_closed (n + 1) (drop n cs)) (e ∙ waiting_inside cs n some h) in
      ap Err p.1 ∙ ap all_read (sym p.0 ∙ sym (closed_next cs n some h) ∙ was)

  pub reading_ends : (cs : List (Cell K)) (n k : ℕ) → length cs ≤ k → first_closed n (drop k cs) ≡ closed_waiting cs → Ok tt ≡ all_read (closed_waiting cs)
  reading_ends cs n k h was = ap all_read (sym (ap (first_closed n) (drop_all k cs h)) ∙ was)

  pub reading_last : (cs : List (Cell K)) (n : ℕ) (o : Option (Node K)) → 0 < n → n ≤ length cs → length cs ≤ n → Ok o ≡ waiting_at cs n →
      first_closed n (drop (n - 1) cs) ≡ closed_waiting cs → Ok tt ≡ all_read (closed_waiting cs)
  reading_last cs n o some h long e was = reading_ends cs (n + 1) n long (reading_goes_on cs n o some h e was n refl)

  -- THE RELEASE

  open_head : (c : Cell K) (n k : ℕ) (rest : Option ℕ) → closed_at n c rest ≡ None → closed_at k c None ≡ None
  open_head (shut m) n k rest e = by_mark (eqb m 2) e
    where
      by_mark : (b : Bool) → cond b (Some n) rest ≡ None → cond b (Some k) None ≡ None
      by_mark true e = let z : ◌≡◌ {A = ℕ} 0 1 = cc in let w : ⊥ = omega arith in elim w [ ]
      by_mark false e = refl
  open_head (readable v) n k rest e = refl

  open_tail : (c : Cell K) (n : ℕ) (rest : Option ℕ) → closed_at n c rest ≡ None → rest ≡ None
  open_tail (shut m) n rest e = by_mark (eqb m 2) e
    where
      by_mark : (b : Bool) → cond b (Some n) rest ≡ None → rest ≡ None
      by_mark true e = let z : ◌≡◌ {A = ℕ} 0 1 = cc in let w : ⊥ = omega arith in elim w [ ]
      by_mark false e = e
  open_tail (readable v) n rest e = e

  none_closed : (cs : List (Cell K)) (n j k : ℕ) → first_closed n cs ≡ None → closed_at k (get_or cs j (shut 0)) None ≡ None
  none_closed [] n j k e = refl
  none_closed (c ∷ cs) n zero k e = open_head c n k (first_closed (n + 1) cs) e
  none_closed (c ∷ cs) n (suc j) k e = none_closed cs (n + 1) j k (open_tail c n (first_closed (n + 1) cs) e)

  -- no waiting node of the pool is closed
  none_closed_at : (cs : List (Cell K)) (n k : ℕ) → 32 < n → closed_waiting cs ≡ None → closed_at k (cell_at cs n) None ≡ None
  unfolding closed_waiting
  none_closed_at cs n k h e =
      let same : 32 + (n - 33) ≡ n - 1 = omega arith in
      subst (λ c. closed_at k c None ≡ None) (get_or-drop 32 cs (n - 33) (shut 0) ∙ ap (λ j. get_or cs j (shut 0)) same)
      (none_closed (drop 32 cs) 33 (n - 33) k e)

  not_waiting : (s n : ℕ) (c : Cell K) → Ok None ≡ waiting_cell n c → released s c ≡ None
  not_waiting s n (shut m) e = refl
  not_waiting s n (readable v) e = by_mark (eqb v.mark 2) e
    where
      by_mark : (b : Bool) → ◌≡◌ {A = Result (Option (Node K)) StoreFault} (Ok None) (cond b (Ok (Some v)) (Ok None)) → cond (b && bit s v.waits) (Some (waiting_for (without_bit s v.waits) v)) None ≡ None
      by_mark true e = let z : ◌≡◌ {A = ℕ} 0 1 = cc in let w : ⊥ = omega arith in elim w [ ]
      by_mark false e = refl

  waiting_is : (s n : ℕ) (c : Cell K) (v : Node K) → Ok (Some v) ≡ waiting_cell n c → released s c ≡ cond (bit s v.waits) (Some (waiting_for (without_bit s v.waits) v)) None
  waiting_is s n (shut m) v e = by_mark (eqb m 2) e
    where
      by_mark : (b : Bool) → ◌≡◌ {A = Result (Option (Node K)) StoreFault} (Ok (Some v)) (cond b (Err (fault_at Read n Closed)) (Ok None)) → None ≡ cond (bit s v.waits) (Some (waiting_for (without_bit s v.waits) v)) None
      by_mark true e = let z : ◌≡◌ {A = ℕ} 0 1 = cc in let w : ⊥ = omega arith in elim w [ ]
      by_mark false e = let z : ◌≡◌ {A = ℕ} 0 1 = cc in let w : ⊥ = omega arith in elim w [ ]
  waiting_is s n (readable u) v e = by_mark (eqb u.mark 2) e
    where
      by_mark : (b : Bool) → ◌≡◌ {A = Result (Option (Node K)) StoreFault} (Ok (Some v)) (cond b (Ok (Some u)) (Ok None)) →
          cond (b && bit s u.waits) (Some (waiting_for (without_bit s u.waits) u)) None ≡ cond (bit s v.waits) (Some (waiting_for (without_bit s v.waits) v)) None
      by_mark true e = let same : u ≡ v = cc in ap (λ x. cond (bit s x.waits) (Some (waiting_for (without_bit s x.waits) x)) None) same
      by_mark false e = let z : ◌≡◌ {A = ℕ} 0 1 = cc in let w : ⊥ = omega arith in elim w [ ]

  in_pool : (s : ℕ) (cs : List (Cell K)) (n : ℕ) → 32 < n → release s cs n ≡ released s (cell_at cs n)
  in_pool s cs n lt = rw (lt-ltb 32 n lt)

  module _ (s : ℕ) (cs ds : List (Cell K)) (n : ℕ) (pooled : 32 < n) (h : n ≤ length cs) (was : Rewritten (upto (n - 1) (release s cs)) cs ds) where
    some : 0 < n
    some = omega arith

    still : waiting_at ds n ≡ waiting_cell n (cell_at cs n)
    still =
        let k : n ≤ length ds = omega (arith, was.count) in
        waiting_inside ds n some k ∙ ap (waiting_cell n) (sweep_meets (release s cs) n some cs ds was h)

    pub release_reads : (x : StoreFault) → closed_waiting cs ≡ None → Err x ≡ waiting_at ds n → ⊥
    release_reads x none e =
        let p = stops (cell_at cs n) n x None (e ∙ still) in
        let q = none_closed_at cs n n pooled none in
        let z : ◌≡◌ {A = ℕ} 0 1 = cc (p.0, q) in
        omega arith

    pub release_passes : Ok None ≡ waiting_at ds n → Rewritten (upto n (release s cs)) cs ds
    release_passes e = sweep_passes (release s cs) n some cs ds was (in_pool s cs n pooled ∙ not_waiting s n (cell_at cs n) (e ∙ still))

    by_bit : (v : Node K) (b : Bool) → Ok (Some v) ≡ waiting_at ds n → bit s v.waits ≡ b →
        release s cs n ≡ cond b (Some (waiting_for (without_bit s v.waits) v)) None
    by_bit v b e t =
        in_pool s cs n pooled ∙ waiting_is s n (cell_at cs n) v (e ∙ still)
        ∙ ap (λ x. cond x (Some (waiting_for (without_bit s v.waits) v)) None) t

    pub release_leaves : (v : Node K) → Ok (Some v) ≡ waiting_at ds n → bit s v.waits ≡ false → Rewritten (upto n (release s cs)) cs ds
    release_leaves v e t = sweep_passes (release s cs) n some cs ds was (by_bit v false e t)

    pub release_writes : (es : List (Cell K)) (u v : Node K) → Ok (Some v) ≡ waiting_at ds n → bit s v.waits ≡ true → u ≡ waiting_for (without_bit s v.waits) v →
        Written ds n u es → Rewritten (upto n (release s cs)) cs es
    release_writes es u v e t is wrote = sweep_writes (release s cs) n some cs ds was es u h (by_bit v true e t ∙ ap Some (sym is)) wrote

  pub release_starts : (s : ℕ) (cs : List (Cell K)) (n : ℕ) → n ≤ 32 → release s cs n ≡ None
  release_starts s cs n h = rw (le-ltb 32 n h)

-- what the reading of every waiting node needs
pub ruleset reading_answers = (count_is, reading_starts, reading_goes_on, reading_stops, reading_last, reading_ends)
