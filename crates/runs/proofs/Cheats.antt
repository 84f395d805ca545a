-- Cheats do not meet the promise.
use Rattle.std.proofs.Common.{◌≡◌, ℕ, suc, ◌≤◌, Bool, true, false, cond, T, ◌⊎◌, List, [], ◌∷◌, length, Some, None, Option, sym, refl, ap, ◌∙◌, subst, inl, inr, not-suc-le-zero, arith, Ok, Err}
use Rattle.std.specs.declared.convert.Infallible.{Infallible}
use Rattle.keys.specs.declared.whole.Whole.{Whole}
use Rattle.store.specs.declared.node.Node.{Node}
use Rattle.store.specs.Cells.{readable, cell_at, all_shut}
use Rattle.store.specs.Fits.{FitCells}
use Rattle.trees.specs.Regions.{Ranges, Region as WellMade, below, set_put}
use Rattle.trees.specs.Trees.{Tree, leaf, node, inorder, seek}
use Rattle.trees.specs.Edits.{Frame, frame, place, whole, labels}
use Rattle.store.specs.Nodes.{region, region_of}
use Rattle.store.specs.declared.node.Region.{Region}
use Rattle.requests.specs.declared.call.Call.{Call}
use Rattle.requests.specs.declared.call.Call.TheVariants.{Put, Drop}
use Rattle.runs.specs.declared.call.Answer.TheVariants.{Pending, Opened, Closed, On, Nothing, Found, Nodes}
use Rattle.runs.specs.declared.call.Argument.{Argument}
use Rattle.runs.specs.declared.call.Argument.TheVariants.{Low, High}
use Rattle.runs.specs.declared.call.Refusal.{Refusal}
use Rattle.runs.specs.declared.call.Refusal.TheVariants.{NoRegion, FewFree}
use Rattle.runs.specs.Calls.{Kind, regions, accepted, Outcome}
use Rattle.runs.specs.Histories.{First, Lookup, lookup, set_of, last_told}
use Rattle.runs.specs.States.{State, Cells, Row, row_of, live_nodes, waiting_nodes, free_nodes, member, Spells, TreeAt, JustMade}
use Rattle.runs.specs.Table.{Scene, Fits, or_fault, free_needed, size, no_session, no_lookup, ill_formed, not_below, under_way, overlapping, no_region, full, few_free}
use Rattle.runs.specs.Effects.{Onward, Steps, no_place, finds, ends, goes_on, StepTells, StepAnswers}
use Rattle.runs.specs.Runs.{Turn, turn, history, state, LeftDuring, NumberOf}
use Rattle.runs.specs.Promise.{Kept}
use Rattle.runs.specs.Teeth.{Among, steps_told, IdlePutFails, TreeIsInStore, ClosingAllFails, FirstPutIsTaken, FirstDropIsRefused, ConstantFails, FewAreFree, OpenOnlyOpens, NoneIsCompared, StepsAreCounted, CountsTellTruth, FreedAtOnceFails, CheatsFail, SecondPutLeaves}
use Rattle.runs.specs.Examples.{span}
use Rattle.trees.proofs.Places.{count_order}
use Rattle.runs.proofs.Makes.{empty_tree, many_free}
use Rattle.runs.proofs.Lines.{line_13, needs_at_most}
use Rattle.runs.proofs.Links.{spelled_has}

one_or_more : {A : Type 0} (b : Bool) (xs ys : List A) → 1 ≤ length xs → 1 ≤ length ys → 1 ≤ length (cond b xs ys)
one_or_more true xs ys h i = h
one_or_more false xs ys h i = i

put_adds : {K R : Type 0} (g : Ranges K R) (x : R) (xs : List R) → 1 ≤ length (set_put g x xs)
put_adds g x [] = omega arith
put_adds g x (y ∷ ys) = one_or_more (below g (g.low x) (g.low y)) (x ∷ (y ∷ ys)) (y ∷ set_put g x ys) (omega arith) (omega arith)

no_tree : {K : Type 0} (cs : Cells K) (pending : List ℕ) (link : ℕ) (t : Tree ℕ (Region K)) → Spells cs pending link t → link ≡ 0 → length (inorder t) ≡ 0
no_tree cs pending link leaf s e = refl
no_tree cs pending link (node n l y r) s e = let p = s.2.in_pool.past_seats in let q = s.1 in absurd (let f : ⊥ = omega arith in f)

none_in : (qs : List ℕ) (q : ℕ) → length qs ≡ 0 → T (member q qs) → ⊥
none_in [] q e h = h
none_in (p ∷ qs) q e h = omega arith

shut_first : {K : Type 0} (cs : Cells K) (v : Node K) → cell_at (all_shut cs) 1 ≡ readable v → ⊥
shut_first [] v e = let z : ◌≡◌ {A = ℕ} 0 1 = cc in omega arith
shut_first (c ∷ cs) v e = let z : ◌≡◌ {A = ℕ} 0 1 = cc in omega arith

module _ {K F : Type 0} (kd : Kind K F) where
  idle_put : IdlePutFails kd
  idle_put z y ts low high rows n k e =
      let a : length (inorder (whole k.place)) ≡ 0 = no_tree y.memory y.pending y.root (whole k.place) k.tree_stands.spelled e in
      let b = put_adds (regions kd) (region low high rows) (set_of kd (history ts)) in
      let c = ap length k.tree_spells in
      omega arith

  tree_elsewhere : TreeIsInStore kd
  tree_elsewhere z ts x k h =
      let y = state z ts in
      let w = spelled_has y.memory y.pending y.root (whole k.place) x k.tree_stands.spelled (subst (λ (xs : List (Region K)). Among x xs) (sym k.tree_spells) h) in
      record { number = w.0; content = w.1; in_tree = w.2; in_pool = w.3; can_be_read = w.4; mark_one = w.5; the_region = w.6 }

  closing_all : ClosingAllFails kd
  closing_all z ts cs k e = shut_first cs _ (ap (λ (ds : Cells K). cell_at ds 1) (sym e) ∙ k.others.seats 0 (omega arith))

  -- STEPS

  steps_counted : (cs : Cells K) (k : K) (n p : ℕ) (a : Outcome K F) (w : Row) → Steps kd cs k n p a w → steps_told a ≡ Some (suc n)
  steps_counted cs k n p a w no_place = refl
  steps_counted cs k n p a w (finds _ v h c o) = refl
  steps_counted cs k n p a w (ends _ v h c o) = refl
  steps_counted cs k n p a w (goes_on _ q v h c o i) = refl

  none_compared :
      (cs : Cells K) (k : K) (n p : ℕ) (a : Outcome K F) (w : Row) (m : ℕ) → Steps kd cs k n p a w → a ≡ Ok (Nothing m) → 1 ≤ p →
      (v : Node K) × (cell_at cs p ≡ readable v) × Onward (seek (regions kd) k (region_of v)) v 0
  none_compared cs k n p a w m no_place e h = absurd (let f : ⊥ = omega arith in f)
  none_compared cs k n p a w m (finds _ v i c o) e h = absurd (let z : ◌≡◌ {A = ℕ} 0 1 = cc in let f : ⊥ = omega arith in f)
  none_compared cs k n p a w m (ends _ v i c o) e h = (v, c, o)
  none_compared cs k n p a w m (goes_on _ q v i c o j) e h = absurd (let z : ◌≡◌ {A = ℕ} 0 1 = cc in let f : ⊥ = omega arith in f)

  -- what an accepted step of a lookup that is not answered tells
  going_step :
      (z : State (Cells K)) (s : ℕ) (l : Lookup K) (o : Option (Lookup K)) (a : Outcome K F) (rows : List Row) → o ≡ Some l → l.first ≡ None →
      StepAnswers kd z s o a rows → (w : Row) × Steps kd z.memory l.key l.steps (row_of z s).place a w
  going_step z s l None a rows e f h = absurd h
  going_step z s l (Some j) a rows e f h =
      let d : j ≡ l = cc in
      let P : Lookup K → Type 0 = λ i. StepTells kd z s i i.first a rows in
      let h' : StepTells kd z s l l.first a rows = subst P d h in
      let Q : Option (First K) → Type 0 = λ o. StepTells kd z s l o a rows in
      let g : StepTells kd z s l None a rows = subst Q f h' in
      (g.0, g.1)

  -- WHAT THE FIRST CALLS ANSWER

  -- an answer is accepted or a refusal
  either : (a : Outcome K F) → (accepted a ≡ true) ⊎ ((r : Refusal F) × (a ≡ Err r))
  either (Ok b) = inl refl
  either (Err r) = inr (r, refl)

  abbrev pub first_scene : State (Cells K) → Scene K F
  first_scene z = record { past = []; state = z; place = place [] leaf }

  none_ill : (o p : Option F) (x : Argument × F) → o ≡ None → p ≡ None → or_fault Low o (or_fault High p None) ≡ Some x → ⊥
  none_ill None None x d e h = let z : ◌≡◌ {A = ℕ} 0 1 = cc in omega arith
  none_ill None (Some f) x d e h = let z : ◌≡◌ {A = ℕ} 0 1 = cc in omega arith
  none_ill (Some f) p x d e h = let z : ◌≡◌ {A = ℕ} 0 1 = cc in omega arith

  pub none_fits :
      (z : State (Cells K)) (low high : K) (rows : ℕ) (r : Refusal F) → JustMade kd.filler z → FitCells z.memory →
      WellMade (regions kd) (region low high rows) → Fits kd (first_scene z) (Put low high rows) r → ⊥
  none_fits z low high rows r made fit w (size _ h) = h fit.range
  none_fits z low high rows r made fit w (no_session _ s e h) = let z : ◌≡◌ {A = ℕ} 0 1 = cc in omega arith
  none_fits z low high rows r made fit w (no_lookup _ s e h) = let z : ◌≡◌ {A = ℕ} 0 1 = cc in omega arith
  none_fits z low high rows r made fit w (ill_formed _ a f e) = none_ill _ _ (a, f) w.low_formed w.high_formed e
  none_fits z low high rows r made fit w (not_below _ _ _ e) = subst T e w.rises
  none_fits z low high rows r made fit w (under_way _ _ e) = not-suc-le-zero e
  none_fits z low high rows r made fit w (overlapping _ _ _ e) = e
  none_fits z low high rows r made fit w (no_region _ k e h) = let z : ◌≡◌ {A = ℕ} 0 1 = cc in omega arith
  none_fits z low high rows r made fit w (full _ _ e) = let f = fit.range.least in omega arith
  none_fits z low high rows r made fit w (few_free _ e) = let f = many_free kd.filler z made fit in omega arith

  refusing : FirstPutIsTaken kd
  refusing z y low high rows a made fit w k =
      let exact = k.exact (place [] leaf) (empty_tree kd.filler z made) in
      elim (either a) [
        | inl e ↦ (exact.accepted_does e).answers.0
        | inr r ↦ absurd (none_fits z low high rows r.0 made fit w (exact.refused_by r.0 r.1).fits)
      ]

  never_refusing : FirstDropIsRefused kd
  never_refusing z y k a made kept = (kept.exact (place [] leaf) (empty_tree kd.filler z made)).refused_if NoRegion (no_region (Drop k) k refl refl)

  constant : ConstantFails kd
  constant z y y' low high rows a made fit w k k' =
      let e = refusing z y low high rows a made fit w k in
      let d = ((k'.exact k.place k.tree_stands).accepted_does (ap accepted e)).answers.0 in
      let b : ◌≡◌ {A = ℕ} 0 1 = cc in
      omega arith

  -- THE REST

  -- fewer than what the call needs, which is 96 at most, and 1 for a put
  pub few_are_free :
      (z y : State (Cells K)) (ts : List (Turn (Cells K) K F)) (c : Call K) → Kept kd z ts → Kept kd z (turn c (Err FewFree) y ∷ ts) →
      FewAreFree kd 96 1 c (free_nodes (state z ts).memory)
  few_are_free z y ts c k k' =
      let h = line_13 kd _ c FewFree ((k'.exact k.place k.tree_stands).refused_by FewFree refl).fits refl in
      let m = needs_at_most kd c k.place in
      record {
        at_all = omega arith;
        at_put = λ low high rows e. let d : free_needed kd c k.place ≡ 1 = ap (λ (j : Call K). free_needed kd j k.place) e in omega arith;
      }

  finished_in_open : OpenOnlyOpens kd
  finished_in_open z y ts s j k k' = ((k'.exact k.place k.tree_stands).accepted_does refl).answers.1

  not_compared : NoneIsCompared kd
  not_compared z y ts s n l k e f h k' =
      let w = going_step (state z ts) s l (lookup s (history ts)) (Ok (Nothing n)) y.rows e f ((k'.exact k.place k.tree_stands).accepted_does refl).answers in
      none_compared (state z ts).memory l.key l.steps (row_of (state z ts) s).place (Ok (Nothing n)) w.0 n w.1 refl h

  invented_steps : StepsAreCounted kd
  invented_steps z y ts s a l k e f t k' =
      let w = going_step (state z ts) s l (lookup s (history ts)) a y.rows e f ((k'.exact k.place k.tree_stands).accepted_does t).answers in
      steps_counted (state z ts).memory l.key l.steps (row_of (state z ts) s).place a w.0 w.1

  invented_counts : CountsTellTruth kd
  invented_counts z y ts a b c k k' =
      let h = ((k'.exact k.place k.tree_stands).accepted_does refl).answers.0 in
      let ea : a ≡ live_nodes (state z ts).memory = cc in
      let eb : b ≡ waiting_nodes (state z ts).memory = cc in
      let ec : c ≡ free_nodes (state z ts).memory = cc in
      record {
        regions_stand = ea ∙ k.live_are_regions;
        have_left = subst (λ (m : ℕ). NumberOf (LeftDuring z ts) m) (sym eb) k.waiting_have_left;
        all_nodes = let s = k.adds_up in omega arith;
      }

  freed_at_once : FreedAtOnceFails kd
  freed_at_once z ts q k l e = none_in k.waiting_have_left.nodes q (k.waiting_have_left.many ∙ e) (k.waiting_have_left.every q l)

  pub cheats_fail : CheatsFail kd
  cheats_fail = record {
    idle_put = idle_put;
    tree_elsewhere = tree_elsewhere;
    closing_all = closing_all;
    refusing = refusing;
    never_refusing = never_refusing;
    constant = constant;
    nodes_to_spare = few_are_free;
    finished_in_open = finished_in_open;
    not_compared = not_compared;
    invented_steps = invented_steps;
    invented_counts = invented_counts;
    freed_at_once = freed_at_once;
  }

-- AN EDIT AT ONCE

one_node : {R : Type 0} (t : Tree ℕ R) (x : R) → inorder t ≡ x ∷ [] → (m : ℕ) × (t ≡ node m leaf x leaf)
one_node leaf x e = absurd (let z : ◌≡◌ {A = ℕ} 0 1 = cc in let f : ⊥ = omega arith in f)
one_node (node n leaf y leaf) x e = (n, (let d : y ≡ x = cc in ap (λ w. node n leaf w leaf) d))
one_node (node n leaf y (node m c w d)) x e =
    let h = count_order (node n leaf y (node m c w d)) in
    let i = ap length e in
    absurd (let f : ⊥ = omega arith in f)
one_node (node n (node m a w b) y r) x e =
    let h = count_order (node n (node m a w b) y r) in
    let i = ap length e in
    absurd (let f : ⊥ = omega arith in f)

no_frames : {L R : Type 0} (fs : List (Frame L R)) → length (labels fs) ≡ 0 → fs ≡ []
no_frames [] e = refl
no_frames (frame s o x u ∷ fs) e = absurd (let f : ⊥ = omega arith in f)

pub second_put : SecondPutLeaves 1
second_put z y y' n k k' =
    let none : k.place.above ≡ [] = no_frames k.place.above (ap length (sym k.tree_stands.path_pending) ∙ sym k.edit_told) in
    let one = one_node (whole k.place) (span 10 20 5) k.tree_spells in
    let start : TreeAt y (place [] (node one.0 leaf (span 10 20 5) leaf)) = record {
      spelled = subst (λ (t : Tree ℕ (Region Whole)). Spells y.memory y.pending y.root t) one.1 k.tree_stands.spelled;
      path_pending = k.tree_stands.path_pending ∙ ap labels none;
    } in
    let h = ((k'.exact (place [] (node one.0 leaf (span 10 20 5) leaf)) start).accepted_does refl).answers.0 in
    let P : Outcome Whole Infallible → ℕ = λ a. last_told a 0 in
    ap P h
