-- The pending nodes of a state say where its edit is, but for the side of the lowest, which does not matter.
use Rattle.std.proofs.Common.{◌≡◌, ℕ, zero, suc, ◌+◌, ◌≤◌, Bool, true, false, cond, T, eqb, List, [], ◌∷◌, length, sym, refl, ap, ◌∙◌, subst, add_comm, arith, eq-eqb, Ok}
use mathlib.Core.Bool.{or_comm}
use Rattle.store.specs.Cells.{readable}
use Rattle.trees.specs.Trees.{Side, left, right, Tree, leaf, node, beside, count, seek}
use Rattle.trees.specs.Rotations.{too_heavy}
use Rattle.trees.specs.Edits.{Frame, frame, labels, Place, place, plug, whole, descend, standing, advanced, Made}
use Rattle.trees.specs.Paths.{inside, Distinct}
use Rattle.store.specs.declared.node.Region.{Region}
use Rattle.requests.specs.declared.call.Call.{Call}
use Rattle.requests.specs.declared.call.Call.TheVariants.{Put, Drop, Split, Advance, Open, Step, Close, Counts}
use Rattle.runs.specs.declared.call.Answer.TheVariants.{Pending}
use Rattle.runs.specs.declared.call.Refusal.{Refusal}
use Rattle.runs.specs.declared.call.Refusal.TheVariants.{UnderWay}
use Rattle.runs.specs.Calls.{Kind, regions, accepted, Outcome}
use Rattle.runs.specs.Histories.{to_do}
use Rattle.runs.specs.States.{State, Cells, waiting, TreeAt}
use Rattle.runs.specs.Table.{Scene, begins_edit, both_sides, rotates, free_needed, Fits, size, no_session, has_lookup, no_lookup, ill_formed, not_below, under_way, at_rest, overlapping, no_region, same_as_low, full, few_free}
use Rattle.runs.specs.Effects.{NumberedAs, treated_size, Done, Exact}
use Rattle.runs.specs.Teeth.{at_place, PlaceIsEnough}
use Rattle.runs.proofs.Links.{same_tree}

module _ {R : Type 0} where
  -- the top has this number
  abbrev Top : ℕ → Tree ℕ R → Type 0
  Top o leaf = ⊥
  Top o (node n l x r) = n ≡ o

  top_inside : (o : ℕ) (t : Tree ℕ R) → Top o t → 1 ≤ inside (eqb o) t
  top_inside o leaf h = absurd h
  top_inside o (node n l x r) h = rw (eq-eqb o n (sym h)) (omega arith)

  top_beside : (s : Side) (n : ℕ) (t : Tree ℕ R) (x : R) (u : Tree ℕ R) → Top n (beside s n t x u)
  top_beside left n t x u = refl
  top_beside right n t x u = refl

  beside_inside : (q : ℕ) (s : Side) (n : ℕ) (t : Tree ℕ R) (x : R) (u : Tree ℕ R) → inside (eqb q) t + inside (eqb q) u ≤ inside (eqb q) (beside s n t x u)
  beside_inside q left n t x u = omega arith
  beside_inside q right n t x u = omega arith

  plug_inside : (q : ℕ) (fs : List (Frame ℕ R)) (t : Tree ℕ R) → inside (eqb q) t ≤ inside (eqb q) (plug fs t)
  plug_inside q [] t = omega arith
  plug_inside q (frame s n x u ∷ fs) t =
      let a = beside_inside q s n t x u in
      let b = plug_inside q fs (beside s n t x u) in
      omega arith

  -- both sides of a node with the same top: no
  twice : (o : ℕ) (fs : List (Frame ℕ R)) (s : Side) (n : ℕ) (t : Tree ℕ R) (x : R) (u : Tree ℕ R) → Top o t → Top o u → Distinct (plug fs (beside s n t x u)) → ⊥
  twice o fs s n t x u h i d =
      let a = top_inside o t h in
      let b = top_inside o u i in
      let c = beside_inside o s n t x u in
      let e = plug_inside o fs (beside s n t x u) in
      let f = d o in
      omega arith

  pub record Same (fs gs : List (Frame ℕ R)) (t u : Tree ℕ R) : Type 0 where
    pub path : fs ≡ gs
    pub under : t ≡ u

  -- one tree, the same numbers on the way, the same number at its end: the same place
  by_sides :
      (s s' : Side) (o n n' : ℕ) (x x' : R) (w w' t u : Tree ℕ R) (fs gs : List (Frame ℕ R)) → Top o t → Top o u → Distinct (plug fs (beside s n t x w)) →
      Same fs gs (beside s n t x w) (beside s' n' u x' w') → Same (frame s n x w ∷ fs) (frame s' n' x' w' ∷ gs) t u
  by_sides left left o n n' x x' w w' t u fs gs h i d e =
      let a = e.path in let b = e.under in record { path = cc; under = cc }
  by_sides right right o n n' x x' w w' t u fs gs h i d e =
      let a = e.path in let b = e.under in record { path = cc; under = cc }
  by_sides left right o n n' x x' w w' t u fs gs h i d e =
      let b = e.under in
      let c : w ≡ u = cc in
      absurd (twice o fs left n t x w h (subst (Top o) (sym c) i) d)
  by_sides right left o n n' x x' w w' t u fs gs h i d e =
      let b = e.under in
      let c : w ≡ u = cc in
      absurd (twice o fs right n t x w h (subst (Top o) (sym c) i) d)

  same_end :
      (fs gs : List (Frame ℕ R)) (t u : Tree ℕ R) (o : ℕ) → Top o t → Top o u → plug fs t ≡ plug gs u → labels fs ≡ labels gs → Distinct (plug fs t) →
      Same fs gs t u
  same_end [] [] t u o h i e l d = record { path = refl; under = e }
  same_end [] (frame s n x w ∷ gs) t u o h i e l d = absurd (let z : ◌≡◌ {A = ℕ} 0 1 = cc in let b : ⊥ = omega arith in b)
  same_end (frame s n x w ∷ fs) [] t u o h i e l d = absurd (let z : ◌≡◌ {A = ℕ} 0 1 = cc in let b : ⊥ = omega arith in b)
  same_end (frame s n x w ∷ fs) (frame s' n' x' w' ∷ gs) t u o h i e l d =
      let a : n' ≡ n = cc in
      let b : labels fs ≡ labels gs = cc in
      let ih = same_end fs gs (beside s n t x w) (beside s' n' u x' w') n (top_beside s n t x w)
      (subst (λ (j : ℕ). Top j (beside s' n' u x' w')) a (top_beside s' n' u x' w')) e b d in
      by_sides s s' o n n' x x' w w' t u fs gs h i d ih

-- WHAT ADVANCE FINDS at two places of one tree with the same pending nodes

module _ {K F : Type 0} (kd : Kind K F) where
  record Agree (fs gs : List (Frame ℕ (Region K))) (t u : Tree ℕ (Region K)) : Type 0 where
    made : advanced fs t ≡ advanced gs u
    turns : rotates fs t ≡ rotates gs u
    sizes : (n was : ℕ) → treated_size kd fs t n was ≡ treated_size kd gs u n was

  -- the same frame over the same tree
  agree_same : (fs gs : List (Frame ℕ (Region K))) (t u : Tree ℕ (Region K)) → fs ≡ gs → t ≡ u → Agree fs gs t u
  agree_same fs gs t u e d = subst (λ (hs : List (Frame ℕ (Region K))). Agree fs hs t u) e (subst (Agree fs fs t) d (record { made = refl; turns = refl; sizes = λ n was. refl }))

  -- the two sides of one node
  abbrev other : Side → Side
  other left = right
  other right = left

  made_turned :
      (s : Side) (n : ℕ) (x : Region K) (t w : Tree ℕ (Region K)) (fs : List (Frame ℕ (Region K))) →
      advanced (frame s n x w ∷ fs) t ≡ advanced (frame (other s) n x t ∷ fs) w
  made_turned left n x t w fs = refl
  made_turned right n x t w fs = refl

  agree_turned :
      (s : Side) (n : ℕ) (x : Region K) (t w : Tree ℕ (Region K)) (fs : List (Frame ℕ (Region K))) →
      Agree (frame s n x w ∷ fs) (frame (other s) n x t ∷ fs) t w
  agree_turned s n x t w fs = record {
    made = made_turned s n x t w fs;
    turns = or_comm (too_heavy (standing t) (standing w)) (too_heavy (standing w) (standing t));
    sizes = λ j was. ap (λ (m : ℕ). cond (eqb j n) (suc m) was) (add_comm (count t) (count w));
  }

  agree_crossed :
      (s : Side) (n : ℕ) (x : Region K) (w t u : Tree ℕ (Region K)) (fs gs : List (Frame ℕ (Region K))) → w ≡ u → frame (other s) n x t ∷ fs ≡ gs →
      Agree (frame s n x w ∷ fs) gs t u
  agree_crossed s n x w t u fs gs d c =
      subst (λ (hs : List (Frame ℕ (Region K))). Agree (frame s n x w ∷ fs) hs t u) c
      (subst (λ (v : Tree ℕ (Region K)). Agree (frame s n x w ∷ fs) (frame (other s) n x t ∷ fs) t v) d (agree_turned s n x t w fs))

  agree_lowest :
      (s s' : Side) (n n' : ℕ) (x x' : Region K) (w w' t u : Tree ℕ (Region K)) (fs gs : List (Frame ℕ (Region K))) →
      Same fs gs (beside s n t x w) (beside s' n' u x' w') → Agree (frame s n x w ∷ fs) (frame s' n' x' w' ∷ gs) t u
  agree_lowest left left n n' x x' w w' t u fs gs e = let a = e.path in let b = e.under in agree_same _ _ t u (cc) (cc)
  agree_lowest right right n n' x x' w w' t u fs gs e = let a = e.path in let b = e.under in agree_same _ _ t u (cc) (cc)
  agree_lowest left right n n' x x' w w' t u fs gs e = let a = e.path in let b = e.under in agree_crossed left n x w t u fs _ (cc) (cc)
  agree_lowest right left n n' x x' w w' t u fs gs e = let a = e.path in let b = e.under in agree_crossed right n x w t u fs _ (cc) (cc)

  agree :
      (fs gs : List (Frame ℕ (Region K))) (t u : Tree ℕ (Region K)) → plug fs t ≡ plug gs u → labels fs ≡ labels gs → Distinct (plug fs t) → Agree fs gs t u
  agree [] [] t u e l d = agree_same [] [] t u refl e
  agree [] (frame s n x w ∷ gs) t u e l d = absurd (let z : ◌≡◌ {A = ℕ} 0 1 = cc in let b : ⊥ = omega arith in b)
  agree (frame s n x w ∷ fs) [] t u e l d = absurd (let z : ◌≡◌ {A = ℕ} 0 1 = cc in let b : ⊥ = omega arith in b)
  agree (frame s n x w ∷ fs) (frame s' n' x' w' ∷ gs) t u e l d =
      let a : n' ≡ n = cc in
      let b : labels fs ≡ labels gs = cc in
      agree_lowest s s' n n' x x' w w' t u fs gs
      (same_end fs gs (beside s n t x w) (beside s' n' u x' w') n (top_beside s n t x w)
      (subst (λ (j : ℕ). Top j (beside s' n' u x' w')) a (top_beside s' n' u x' w')) e b d)

pub no_frames : {R : Type 0} (fs : List (Frame ℕ R)) → length (labels fs) ≡ 0 → fs ≡ []
no_frames [] e = refl
no_frames (frame s o x u ∷ fs) e = absurd (let f : ⊥ = omega arith in f)

-- an accepted call that begins an edit finds the catalogue at rest
module _ {K F : Type 0} (kd : Kind K F) (x : Scene K F) (p q : Place ℕ (Region K)) (c : Call K) (a : Outcome K F) (y : State (Cells K)) (w : Place ℕ (Region K))
    (tp : TreeAt x.state p) (tq : TreeAt x.state q) (d : Distinct (whole p)) (told : to_do x.past ≡ length x.state.pending) where
  one_whole : whole p ≡ whole q
  one_whole = same_tree x.state.memory x.state.pending x.state.root x.state.root (whole p) (whole q) refl tp.spelled tq.spelled

  agreed : Agree kd p.above q.above p.under q.under
  agreed = agree kd p.above q.above p.under q.under one_whole (sym tp.path_pending ∙ tq.path_pending) d

  needed_same : (j : Call K) → free_needed kd j p ≡ free_needed kd j q
  needed_same (Put low high rows) = refl
  needed_same (Drop k) = ap (λ (t : Tree ℕ (Region K)). cond (both_sides (descend (seek (regions kd) k) [] t).under) 96 0) one_whole
  needed_same (Split b m n) = refl
  needed_same Advance = ap (λ (b : Bool). cond b 3 0) agreed.turns
  needed_same (Open s k) = refl
  needed_same (Step s) = refl
  needed_same (Close s) = refl
  needed_same Counts = refl

  -- the same lines fit
  fits_same : (u v : Place ℕ (Region K)) → ((j : Call K) → free_needed kd j u ≡ free_needed kd j v) → (j : Call K) (e : Refusal F) → Fits kd (at_place x u) j e → Fits kd (at_place x v) j e
  fits_same u v n j e (size _ h) = size j h
  fits_same u v n j e (no_session _ s i h) = no_session j s i h
  fits_same u v n j e (has_lookup s k l h) = has_lookup s k l h
  fits_same u v n j e (no_lookup _ s i h) = no_lookup j s i h
  fits_same u v n j e (ill_formed _ b f h) = ill_formed j b f h
  fits_same u v n j e (not_below low high rows h) = not_below low high rows h
  fits_same u v n j e (under_way _ i h) = under_way j i h
  fits_same u v n j e (at_rest h) = at_rest h
  fits_same u v n j e (overlapping low high rows h) = overlapping low high rows h
  fits_same u v n j e (no_region _ k i h) = no_region j k i h
  fits_same u v n j e (same_as_low b m i z g h) = same_as_low b m i z g h
  fits_same u v n j e (full _ i h) = full j i h
  fits_same u v n j e (few_free _ h) = few_free j (let g = n j in omega arith)

  -- at rest there is one place
  rest_same : length x.state.pending ≡ 0 → p ≡ q
  rest_same e =
      let a : p.above ≡ [] = no_frames p.above (ap length (sym tp.path_pending) ∙ e) in
      let b : q.above ≡ [] = no_frames q.above (ap length (sym tq.path_pending) ∙ e) in
      let f : p.under ≡ q.under = ap (λ (fs : List (Frame ℕ (Region K))). plug fs p.under) (sym a) ∙ one_whole ∙ ap (λ (fs : List (Frame ℕ (Region K))). plug fs q.under) b in
      ap (λ (fs : List (Frame ℕ (Region K))). place fs p.under) (a ∙ sym b) ∙ ap (place q.above) f

  not_under_way : (n : ℕ) → to_do x.past ≡ n → T (begins_edit c) → ((r : Refusal F) → Fits kd (at_place x p) c r → accepted a ≡ false) → accepted a ≡ true → p ≡ q
  not_under_way zero e b r h = rest_same (sym told ∙ e)
  not_under_way (suc n) e b r h =
      let i = r UnderWay (under_way c b (omega arith)) in
      absurd (let z : ◌≡◌ {A = ℕ} 0 1 = cc in let f : ⊥ = omega arith in f)

  done_same : (j : Call K) → (T (begins_edit j) → p ≡ q) → Done kd (at_place x p) j a y w → Done kd (at_place x q) j a y w
  done_same (Put low high rows) e z = subst (λ (v : Place ℕ (Region K)). Done kd (at_place x v) (Put low high rows) a y w) (e tt) z
  done_same (Drop k) e z = subst (λ (v : Place ℕ (Region K)). Done kd (at_place x v) (Drop k) a y w) (e tt) z
  done_same (Split b m n) e z = subst (λ (v : Place ℕ (Region K)). Done kd (at_place x v) (Split b m n) a y w) (e tt) z
  done_same Advance e z = record {
    answers = (z.answers.0 ∙ ap (λ (m : Made (Region K)). Ok (Pending (length m.above))) agreed.made, z.answers.1);
    tree_made = subst (λ (m : Made (Region K)). NumberedAs kd x.state.memory m w) agreed.made z.tree_made;
    pending_made = z.pending_made ∙ ap (λ (m : Made (Region K)). labels m.above) agreed.made;
    size_kept = z.size_kept;
    waiting_kept = λ n v m i.
        let k = z.waiting_kept n v m i in (k.0, k.1 ∙ ap (λ (j : ℕ). readable (waiting v j k.0)) (agreed.sizes n v.size));
  }
  done_same (Open s k) e z =
      record { answers = z.answers; tree_made = z.tree_made ∙ one_whole; pending_made = z.pending_made; size_kept = z.size_kept; waiting_kept = z.waiting_kept }
  done_same (Step s) e z =
      record { answers = z.answers; tree_made = z.tree_made ∙ one_whole; pending_made = z.pending_made; size_kept = z.size_kept; waiting_kept = z.waiting_kept }
  done_same (Close s) e z =
      record { answers = z.answers; tree_made = z.tree_made ∙ one_whole; pending_made = z.pending_made; size_kept = z.size_kept; waiting_kept = z.waiting_kept }
  done_same Counts e z =
      record { answers = z.answers; tree_made = z.tree_made ∙ one_whole; pending_made = z.pending_made; size_kept = z.size_kept; waiting_kept = z.waiting_kept }

  exact_same : Exact kd (at_place x p) c a y w → Exact kd (at_place x q) c a y w
  exact_same e =
      let there = fits_same p q needed_same in
      let back = fits_same q p (λ j. sym (needed_same j)) in
      record {
        refused_by = λ r h. record { fits = there c r (e.refused_by r h).fits; smallest = λ r' f. (e.refused_by r h).smallest r' (back c r' f) };
        refused_if = λ r f. e.refused_if r (back c r f);
        refused_alters = λ h.
            let u = e.refused_alters h in
            record { same_root = u.same_root; same_pending = u.same_pending; same_rows = u.same_rows; same_tree = u.same_tree ∙ one_whole; same_cells = u.same_cells };
        accepted_does = λ h. done_same c (λ b. not_under_way (to_do x.past) refl b e.refused_if h) (e.accepted_does h);
      }

pub place_is_enough : {K F : Type 0} (kd : Kind K F) → PlaceIsEnough kd
place_is_enough kd x p q c a y w tp tq d told e = exact_same kd x p q c a y w tp tq d told e
