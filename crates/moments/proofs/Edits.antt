-- An accepted edit keeps the invariant.
use Rattle.std.proofs.Common.{◌≡◌, ℕ, suc, ◌-◌, ◌<◌, ◌≤◌, Bool, true, false, cond, T, eqb, ◌⊎◌, List, [], ◌∷◌, length, get_or, Some, None, Option, sym, refl, ap, ◌∙◌, subst, inl, inr, arith}
use native.Mathlib.Decide.{dec_le}
use Rattle.store.specs.declared.node.Node.{Node}
use Rattle.store.specs.declared.node.Region.{Region}
use Rattle.store.specs.Cells.{shut, readable, mark_of, cell_at}
use Rattle.store.specs.Fits.{InRange, FitCells}
use Rattle.store.specs.Nodes.{plain}
use Rattle.trees.specs.Regions.{Laws}
use Rattle.trees.specs.Trees.{Tree, inorder, height, seek}
use Rattle.trees.specs.Edits.{Frame, frame, labels, Place, place, plug, whole, Edit, Put as put_edit, Drop as drop_edit, Split as split_edit, Advance as advance_edit, edited, set_after}
use Rattle.trees.specs.Paths.{inside, In}
use Rattle.trees.specs.Steps.{Accepted, InTurn, StepsWell}
use Rattle.trees.proofs.Steps.{step, was_or_taken}
use Rattle.requests.specs.declared.call.Call.{Call}
use Rattle.requests.specs.declared.call.Call.TheVariants.{Put, Drop, Split, Advance, Open, Step, Close, Counts}
use Rattle.runs.specs.Calls.{Kind, regions, edit_of, accepted, Outcome}
use Rattle.runs.specs.Histories.{History, changed, set_of, last_told, to_do, Lookup, lookup, lookup_after, begun_by, open_since, seat_key, seat_after, bits}
use Rattle.runs.specs.States.{State, Cells, Row, row, closed, row_of, waiting, pool, InPool, Free, TreeAt}
use Rattle.runs.specs.Table.{Scene}
use Rattle.runs.specs.Effects.{EditAnswers, EditsAnswer, Answers, NumberedAs, TreeAfter, pending_after, Exact}
use Rattle.runs.specs.Runs.{Turn, turn, history, state, LeftAfter, LeftDuring}
use Rattle.moments.specs.Invariant.{has_one, open_sessions, RowFits, LeftBehind, FrameEdit, scene_at, Inv}
use Rattle.moments.specs.Theorems.{EditKeeps, TreeGoesOn, EditSteps}
use Rattle.moments.proofs.Spelled.{Live, live_mark, in_or_not, tree_live, led, leads}
use Rattle.moments.proofs.Gives.{gives, at_rest}
use Rattle.moments.proofs.Moments.{left_was, left_more, Leaves, left_now, leaves_now}
use Rattle.moments.proofs.Told.{history_length, open_now, bits_same, bits_pick, bits_none, bits_some}
use Rattle.moments.proofs.Taken.{descend_length, advanced_length, Taken, taken_edit, none_fits, never_14}

-- WHAT AN EDIT IS NOT: a session's call

module _ {K : Type 0} (e : Edit K (Region K)) where
  none_some : ◌≡◌ {A = Option (Edit K (Region K))} None (Some e) → ⊥
  none_some d = let z : ◌≡◌ {A = ℕ} 0 1 = cc in omega arith

  edit_seat : (s : ℕ) (c : Call K) (k : K) → edit_of c ≡ Some e → seat_after s c k ≡ k
  edit_seat s (Put low high rows) k d = refl
  edit_seat s (Drop j) k d = refl
  edit_seat s (Split b i j) k d = refl
  edit_seat s Advance k d = refl
  edit_seat s (Open j i) k d = absurd (none_some d)
  edit_seat s (Step j) k d = refl
  edit_seat s (Close j) k d = refl
  edit_seat s Counts k d = refl

module _ {K F : Type 0} (e : Edit K (Region K)) where
  edit_lookup : (s m : ℕ) (c : Call K) (a : Outcome K F) (o : Option (Lookup K)) → edit_of c ≡ Some e → lookup_after s m c a o ≡ o
  edit_lookup s m (Put low high rows) a o d = refl
  edit_lookup s m (Drop k) a o d = refl
  edit_lookup s m (Split b i j) a o d = refl
  edit_lookup s m Advance a o d = refl
  edit_lookup s m (Open j k) a o d = absurd (none_some e d)
  edit_lookup s m (Step j) a o d = absurd (none_some e d)
  edit_lookup s m (Close j) a o d = absurd (none_some e d)
  edit_lookup s m Counts a o d = absurd (none_some e d)

  edit_answers :
      (kd : Kind K F) (x : Scene K F) (c : Call K) (a : Outcome K F) (rows : List Row) → edit_of c ≡ Some e → Answers kd x c a rows →
      EditAnswers kd x e a rows
  edit_answers kd x (Put low high n) a rows d h = subst (λ (o : Option (Edit K (Region K))). EditsAnswer kd x o a rows) d h
  edit_answers kd x (Drop k) a rows d h = subst (λ (o : Option (Edit K (Region K))). EditsAnswer kd x o a rows) d h
  edit_answers kd x (Split b m n) a rows d h = subst (λ (o : Option (Edit K (Region K))). EditsAnswer kd x o a rows) d h
  edit_answers kd x Advance a rows d h = subst (λ (o : Option (Edit K (Region K))). EditsAnswer kd x o a rows) d h
  edit_answers kd x (Open s k) a rows d h = absurd (none_some e d)
  edit_answers kd x (Step s) a rows d h = absurd (none_some e d)
  edit_answers kd x (Close s) a rows d h = absurd (none_some e d)
  edit_answers kd x Counts a rows d h = absurd (none_some e d)

labels_length : {R : Type 0} (fs : List (Frame ℕ R)) → length (labels fs) ≡ length fs
labels_length [] = refl
labels_length (frame s o x u ∷ fs) = ap suc (labels_length fs)

-- a lookup that was open at a moment
open_is : {K : Type 0} (i : ℕ) (o : Option (Lookup K)) → T (begun_by i o) → has_one o ≡ true
open_is i None h = absurd h
open_is i (Some l) h = refl

pub has_is : {K : Type 0} (o : Option (Lookup K)) → has_one o ≡ true → (l : Lookup K) × (o ≡ Some l)
has_is None h = absurd (let z : ◌≡◌ {A = ℕ} 0 1 = cc in let f : ⊥ = omega arith in f)
has_is (Some l) h = (l, refl)

module _ {K F : Type 0} (kd : Kind K F) (laws : Laws (regions kd)) (z : State (Cells K)) (ts : List (Turn (Cells K) K F)) (p : Place ℕ (Region K))
    (c : Call K) (e : Edit K (Region K)) (a : Outcome K F) (y : State (Cells K)) (p' : Place ℕ (Region K)) (v : Inv kd z ts p) (d : edit_of c ≡ Some e)
    (ok : accepted a ≡ true) (ex : Exact kd (scene_at kd z ts p) c a y p') where
  abbrev x : State (Cells K)
  x = state z ts

  abbrev h : History K F
  h = history ts

  abbrev us : List (Turn (Cells K) K F)
  us = turn c a y ∷ ts

  -- THE HISTORY: the lookups and the seats are as they were

  same_lookup : (s : ℕ) → lookup s (history us) ≡ lookup s h
  same_lookup s =
      ap (λ (b : Bool). cond b (lookup_after s (suc (length h)) c a (lookup s h)) (lookup s h)) ok ∙ edit_lookup e s (suc (length h)) c a (lookup s h) d

  same_seat : (s : ℕ) → seat_key kd.filler s (history us) ≡ seat_key kd.filler s h
  same_seat s =
      ap (λ (b : Bool). cond b (seat_after s c (seat_key kd.filler s h)) (seat_key kd.filler s h)) ok ∙
      edit_seat e s c (seat_key kd.filler s h) d

  set_is : set_of kd (history us) ≡ set_after (regions kd) e (set_of kd h)
  set_is =
      ap (λ (b : Bool). cond b (changed kd (edit_of c) (set_of kd h)) (set_of kd h)) ok ∙
      ap (λ (o : Option (Edit K (Region K))). changed kd o (set_of kd h)) d

  same_open : (i s : ℕ) → open_since (history us) i s ≡ open_since h i s
  same_open i s = ap (begun_by i) (same_lookup s)

  same_bits : (i : ℕ) → bits (open_since (history us) i) 32 ≡ bits (open_since h i) 32
  same_bits i = bits_same (open_since (history us) i) (open_since h i) 32 (λ s l. same_open i s)

  -- THE TREE

  done_answers : EditAnswers kd (scene_at kd z ts p) e a y.rows
  done_answers = edit_answers e kd (scene_at kd z ts p) c a y.rows d (ex.accepted_does ok).answers

  numbered : NumberedAs kd x.memory (edited (regions kd) e p) p'
  numbered = subst (λ (o : Option (Edit K (Region K))). TreeAfter kd o (scene_at kd z ts p) p') d (ex.accepted_does ok).tree_made

  pending_is : y.pending ≡ labels (edited (regions kd) e p).above
  pending_is = (ex.accepted_does ok).pending_made ∙ ap (λ (o : Option (Edit K (Region K))). pending_after kd o (scene_at kd z ts p)) d

  same_pool : pool x.memory ≡ pool z.memory
  same_pool = ap (λ (n : ℕ). n - 32) v.as_many

  edit_taken : Taken kd (scene_at kd z ts p) (pool x.memory - 96) e
  edit_taken =
      taken_edit kd (scene_at kd z ts p) (at_rest kd z ts p v) (let r = v.room in let m = same_pool in omega arith) c e d
      (none_fits kd (scene_at kd z ts p) c a y p' ex ok)

  taken_here : Accepted (regions kd) e (inorder (whole p))
  taken_here = subst (λ (xs : List (Region K)). Accepted (regions kd) e xs) (sym v.spells) edit_taken.taken

  free_outside : (n : ℕ) → Free x.memory n → inside (eqb n) (whole p) ≡ 0
  free_outside n f =
      elim (in_or_not n (whole p)) [
        | inl i ↦
            let m = live_mark x.memory n (tree_live x p v.tree n i) in let o = f.mark_zero in absurd (let b : ⊥ = omega arith in b)
        | inr o ↦ omega arith
      ]

  same_place : place (edited (regions kd) e p).above p'.under ≡ p'
  same_place = ap (λ (fs : List (Frame ℕ (Region K))). place fs p'.under) (sym numbered.path)

  well : StepsWell (regions kd) e p p'
  well =
      subst (StepsWell (regions kd) e p) same_place
      (step (regions kd) laws (Free x.memory) e p p'.under v.stands edit_taken.in_turn taken_here numbered.numbered free_outside numbered.once)

  from_where : (q : ℕ) → In q (whole p') → In q (whole p) ⊎ Free x.memory q
  from_where q i =
      was_or_taken (regions kd) laws (Free x.memory) e p p'.under v.stands edit_taken.in_turn taken_here numbered.numbered free_outside
      numbered.once q (subst (λ (r : Place ℕ (Region K)). In q (whole r)) (sym same_place) i)

  -- the tree goes on as it should
  goes_on : TreeGoesOn kd x.memory e p p'
  goes_on = record { well = well; taken = from_where }

  module _ (ty : TreeAt y p') (fr : FrameEdit x y (whole p) (whole p') (open_sessions h)) where
    -- EVERY CELL AFTER IT

    data After (q : ℕ) : Type 0 where
      stays : In q (whole p') → After q
      freed : In q (whole p) → ((s : ℕ) → s < 32 → has_one (lookup s h) ≡ false) → mark_of (cell_at y.memory q) ≡ 0 → After q
      waits :
          In q (whole p) → (In q (whole p') → ⊥) → (s : ℕ) → has_one (lookup s h) ≡ true →
          (w : Node K) → cell_at y.memory q ≡ readable w → w.mark ≡ 2 → w.waits ≡ open_sessions h → After q
      as_was : (In q (whole p) → ⊥) → cell_at y.memory q ≡ cell_at x.memory q → After q

    left_after : (q : ℕ) → In q (whole p) → (In q (whole p') → ⊥) → After q
    left_after q i o = by_open (bits_pick (λ s. has_one (lookup s h)) 32)
      where
        live : Live x.memory q
        live = tree_live x p v.tree q i

        behind : LeftBehind live.content (open_sessions h) (cell_at y.memory q)
        behind = fr.leaves q live.content i o live.can_be_read

        by_open : ((s : ℕ) → s < 32 → has_one (lookup s h) ≡ false) ⊎ ((s : ℕ) × (s < 32) × (has_one (lookup s h) ≡ true)) → After q
        by_open (inl none) = freed i none (behind.freed (bits_none (λ s. has_one (lookup s h)) 32 none))
        by_open (inr some) =
            let many = bits_some (λ s. has_one (lookup s h)) 32 some.0 some.1 some.2 in
            let w = behind.waits (λ z. let f : ⊥ = omega arith in f) in
            waits i o some.0 some.2 (waiting live.content w.0 (open_sessions h)) w.1 refl refl

    after : (q : ℕ) → After q
    after q =
        elim (in_or_not q (whole p')) [
          | inl i ↦ stays i
          | inr o ↦ elim (in_or_not q (whole p)) [ inl i ↦ left_after q i o | inr n ↦ as_was n (fr.others q n o) ]
        ]

    stays_live : (q : ℕ) → In q (whole p') → mark_of (cell_at y.memory q) ≡ 1
    stays_live q i = live_mark y.memory q (tree_live y p' ty q i)

    was_pool : (q : ℕ) → InPool y.memory q → InPool x.memory q
    was_pool q i = let a = i.inside in let m = fr.as_many in record { past_seats = i.past_seats; inside = omega arith }

    -- a node that waited is in neither tree, and is as it was
    waited_stays : (q : ℕ) → mark_of (cell_at x.memory q) ≡ 2 → cell_at y.memory q ≡ cell_at x.memory q
    waited_stays q m =
        let out : In q (whole p) → ⊥ = λ i. let n = live_mark x.memory q (tree_live x p v.tree q i) in let f : ⊥ = omega arith in f in
        fr.others q out
        (λ i. elim (from_where q i) [ inl j ↦ out j | inr f ↦ let n = f.mark_zero in let b : ⊥ = omega arith in b ])

    -- THE CLAUSES

    fit_after : FitCells y.memory
    fit_after = record { range = subst InRange (sym fr.as_many) v.fit.range; free = λ n m c. by_after n m c (after n) }
      where
        by_after : (n m : ℕ) → cell_at y.memory n ≡ shut m → After n → m ≡ 0
        by_after n m c (stays i) =
            let r = (tree_live y p' ty n i).can_be_read in absurd (let w : ◌≡◌ {A = ℕ} 0 1 = cc in let f : ⊥ = omega arith in f)
        by_after n m c (freed i o r) = sym (ap mark_of c) ∙ r
        by_after n m c (waits i o s l w r k b) = absurd (let u : ◌≡◌ {A = ℕ} 0 1 = cc in let f : ⊥ = omega arith in f)
        by_after n m c (as_was o r) = v.fit.free n m (sym r ∙ c)

    marks_after : (q : ℕ) → InPool y.memory q → mark_of (cell_at y.memory q) ≤ 2
    marks_after q i = by_after (after q)
      where
        by_after : After q → mark_of (cell_at y.memory q) ≤ 2
        by_after (stays j) = let m = stays_live q j in omega arith
        by_after (freed j o r) = omega arith
        by_after (waits j o s l w r k b) = let m : mark_of (cell_at y.memory q) ≡ 2 = ap mark_of r ∙ k in omega arith
        by_after (as_was o r) = let m = v.marks q (was_pool q i) in let n : mark_of (cell_at y.memory q) ≡ mark_of (cell_at x.memory q) = ap mark_of r in omega arith

    live_after : (q : ℕ) → InPool y.memory q → mark_of (cell_at y.memory q) ≡ 1 → In q (whole p')
    live_after q i m = by_after (after q)
      where
        by_after : After q → In q (whole p')
        by_after (stays j) = j
        by_after (freed j o r) = absurd (let f : ⊥ = omega arith in f)
        by_after (waits j o s l w r k b) = let n : mark_of (cell_at y.memory q) ≡ 2 = ap mark_of r ∙ k in absurd (let f : ⊥ = omega arith in f)
        by_after (as_was o r) = absurd (o (v.live q (was_pool q i) (sym (ap mark_of r) ∙ m)))

    more_during : (q : ℕ) → LeftDuring z ts q → LeftDuring z us q
    more_during q l = record {
      moment = l.moment;
      session = l.session;
      left = left_more z ts (turn c a y) l.moment q l.left;
      still_open = subst T (sym (same_open l.moment l.session)) l.still_open;
    }

    -- a lookup that there is now is open since before the call
    open_before : (s : ℕ) → has_one (lookup s h) ≡ open_since (history us) (length ts) s
    open_before s =
        sym (open_now kd.filler s h) ∙ ap (λ (i : ℕ). open_since h i s) (history_length ts) ∙ sym (same_open (length ts) s)

    waiting_after : (q : ℕ) → InPool y.memory q → mark_of (cell_at y.memory q) ≡ 2 → LeftDuring z us q
    waiting_after q i m = by_after (after q)
      where
        by_after : After q → LeftDuring z us q
        by_after (stays j) = let n = stays_live q j in absurd (let f : ⊥ = omega arith in f)
        by_after (freed j o r) = absurd (let f : ⊥ = omega arith in f)
        by_after (waits j o s l w r k b) = record {
          moment = length ts;
          session = s;
          left = leaves_now z ts (turn c a y) q (leads x p v.tree q j) (λ t. o (led y p' ty q t));
          still_open = subst T (sym l ∙ open_before s) tt;
        }
        by_after (as_was o r) = more_during q (v.waiting_left q (was_pool q i) (sym (ap mark_of r) ∙ m))

    left_waits_after :
        (q i s : ℕ) → LeftAfter z us i q → T (open_since (history us) i s) →
        (w : Node K) × (cell_at y.memory q ≡ readable w) × (w.mark ≡ 2) × (w.waits ≡ bits (open_since (history us) i) 32)
    left_waits_after q i s l o = by_time (dec_le (suc i) (length ts))
      where
        by_after :
            Leaves z ts (turn c a y) i q → After q →
            (w : Node K) × (cell_at y.memory q ≡ readable w) × (w.mark ≡ 2) × (w.waits ≡ bits (open_since (history us) i) 32)
        by_after g (stays j) = absurd (g.is_out (leads y p' ty q j))
        by_after g (freed j none r) =
            let one : has_one (lookup s h) ≡ true = open_is i (lookup s h) (subst T (same_open i s) o) in
            let k = has_is (lookup s h) one in
            let no = none s (v.sessions s k.0 k.1) in
            absurd (let u : ◌≡◌ {A = ℕ} 0 1 = cc in let f : ⊥ = omega arith in f)
        by_after g (waits j out t b w r k m) = (
          w,
          r,
          k,
          m ∙ bits_same (λ u. has_one (lookup u h)) (open_since (history us) i) 32
              (λ u lt. open_before u ∙ ap (λ (j : ℕ). open_since (history us) j u) (sym g.last)),
        )
        by_after g (as_was out r) = absurd (out (led x p v.tree q g.was_in))

        by_time :
            Dec (i < length ts) →
            (w : Node K) × (cell_at y.memory q ≡ readable w) × (w.mark ≡ 2) × (w.waits ≡ bits (open_since (history us) i) 32)
        by_time (yes lt) =
            let w = v.left_waits q i s (left_was z ts (turn c a y) i q lt l) (subst T (same_open i s) o) in
            (w.0, waited_stays q (ap mark_of w.1 ∙ w.2) ∙ w.1, w.2, w.3 ∙ sym (same_bits i))
        by_time (no ge) = by_after (left_now z ts (turn c a y) i q ge l) (after q)

    seats_after :
        (s : ℕ) → s < 32 → cell_at y.memory (suc s) ≡ readable (plain 3 (seat_key kd.filler s (history us)) kd.filler)
    seats_after s l =
        fr.others (suc s)
        (λ i. let b = (tree_live x p v.tree (suc s) i).in_pool.past_seats in let f : ⊥ = omega arith in f)
        (λ i. let b = (tree_live y p' ty (suc s) i).in_pool.past_seats in let f : ⊥ = omega arith in f) ∙ v.seats s l ∙
        ap (λ (k : K). readable (plain 3 k kd.filler)) (sym (same_seat s))

    -- the path is no longer than the tree is high
    short_after : length (edited (regions kd) e p).above ≤ 27
    short_after = by_edit e edit_taken.in_turn
      where
        low : p.above ≡ [] → height p.under ≤ 27
        low r =
            let none : to_do h ≡ 0 = v.told ∙ ap length v.tree.path_pending ∙ ap (λ (fs : List (Frame ℕ (Region K))). length (labels fs)) r in
            subst (λ (t : Tree ℕ (Region K)). height t ≤ 27) (ap (λ (fs : List (Frame ℕ (Region K))). plug fs p.under) r)
            ((gives kd z ts p v).low_at_rest none)

        by_edit : (f : Edit K (Region K)) → InTurn (regions kd) f p → length (edited (regions kd) f p).above ≤ 27
        by_edit (put_edit w) r = let a = descend_length (seek (regions kd) w.low) [] p.under in let b = low r in omega arith
        by_edit (drop_edit k) r = let a = descend_length (seek (regions kd) k) [] p.under in let b = low r in omega arith
        by_edit (split_edit k f g) r = let a = descend_length (seek (regions kd) k) [] p.under in let b = low r in omega arith
        by_edit advance_edit r =
            let a = advanced_length p.above p.under in
            let b = v.short in
            let m = ap length v.tree.path_pending in
            let n = labels_length p.above in
            omega arith

    keeps : Inv kd z us p'
    keeps = record {
      fit = fit_after;
      as_many = fr.as_many ∙ v.as_many;
      tree = ty;
      stands = well.stands;
      spells = well.spells ∙ ap (set_after (regions kd) e) v.spells ∙ sym set_is;
      room = let r = edit_taken.room in let m = same_pool in let n = ap length set_is in omega arith;
      told =
          ap (λ (b : Outcome K F). last_told b (to_do h)) done_answers.0 ∙ sym (ap length pending_is ∙ labels_length (edited (regions kd) e p).above);
      short = let a = short_after in let b = ap length pending_is in let m = labels_length (edited (regions kd) e p).above in omega arith;
      marks = marks_after;
      live = live_after;
      waiting_left = waiting_after;
      left_waits = left_waits_after;
      none_14 = (never_14 kd (scene_at kd z ts p) c a y p' ex, v.none_14);
      seats = seats_after;
      all_rows = ap length done_answers.1 ∙ v.all_rows;
      rows = λ s.
          subst (λ (o : Option (Lookup K)). RowFits o (row_of y s)) (sym (same_lookup s))
          (subst (λ (rs : List Row). RowFits (lookup s h) (get_or rs s (row closed 0 0))) (sym done_answers.1) (v.rows s));
      sessions = λ s l g. v.sessions s l (sym (same_lookup s) ∙ g);
      formed = λ s l g. v.formed s l (sym (same_lookup s) ∙ g);
    }

pub edit_keeps : {K F : Type 0} (kd : Kind K F) → Laws (regions kd) → EditKeeps kd
edit_keeps kd laws z ts p c e a y p' v d ok ex ty fr = keeps kd laws z ts p c e a y p' v d ok ex ty fr

pub edit_steps : {K F : Type 0} (kd : Kind K F) → Laws (regions kd) → EditSteps kd
edit_steps kd laws z ts p c e a y p' v d ok ex = goes_on kd laws z ts p c e a y p' v d ok ex
