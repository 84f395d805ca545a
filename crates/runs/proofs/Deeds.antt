-- What a call does, under a renaming of nodes.
use Rattle.std.proofs.Common.{◌≡◌, ℕ, suc, T, List, [], ◌∷◌, map, length, get_or, set, Some, None, Option, sym, refl, ap, ◌∙◌, subst, inl, inr, arith, Ok}
use lib.ListN.{get_or-map}
use lib.Seq.{map-set}
use Rattle.store.specs.declared.node.Node.{Node}
use Rattle.store.specs.Cells.{readable, mark_of, cell_at}
use Rattle.trees.specs.Trees.{Turn, to_left, here, to_right, Tree, leaf, node, seek}
use Rattle.trees.specs.Rotations.{Label, kept, new}
use Rattle.trees.specs.Edits.{Frame, frame, labels, Place, Edit, Made, edited}
use Rattle.trees.specs.Paths.{MadeAs, new_at}
use Rattle.store.specs.Nodes.{region_of}
use Rattle.store.specs.declared.node.Region.{Region}
use Rattle.requests.specs.declared.call.Call.{Call}
use Rattle.requests.specs.declared.call.Call.TheVariants.{Put, Drop, Split, Advance, Open, Step, Close, Counts}
use Rattle.runs.specs.declared.call.Answer.TheVariants.{Pending}
use Rattle.runs.specs.declared.call.Refusal.{Refusal}
use Rattle.runs.specs.Calls.{Kind, regions, edit_of, Outcome}
use Rattle.runs.specs.Histories.{History, First, Lookup, lookup}
use Rattle.runs.specs.States.{State, Cells, Row, row, closed, going, as_closed, row_of, member, waiting, Free}
use Rattle.runs.specs.Table.{Scene, Fits, FirstLine}
use Rattle.runs.specs.Effects.{Onward, Steps, no_place, finds, ends, goes_on, StepTells, StepAnswers, EditsAnswer, Answers, NumberedAs, TreeAfter, pending_after, treated_size, size_after, Done, Unaltered, Exact}
use Rattle.runs.specs.Renamings.{relabel, relabel_path, relabel_place, renamed_label, Renaming, renamed_node, renamed_cell, renamed_row, Renamed}
use Rattle.runs.proofs.Relabels.{relabel_count, edits_rename}
use Rattle.runs.proofs.Marks.{marks_same}
use Rattle.runs.proofs.Renames.{to_zero, to_past, inverse, eqb_moves, member_moves, node_back, renamed_back, read_to, mark_to, free_to, relabel_plug, relabel_labels, place_back}
use Rattle.runs.proofs.Carries.{scene, fits_to}

-- LOOKUPS

onward_to : {K : Type 0} (f : ℕ → ℕ) (t : Turn) (v : Node K) (q : ℕ) → Onward t v q → Onward t (renamed_node f v) (f q)
onward_to f to_left v q h = ap f h
onward_to f here v q h = h
onward_to f to_right v q h = ap f h

module _ {K F : Type 0} (kd : Kind K F) {N : ℕ} (ρ : Renaming N) (x y : State (Cells K)) (r : Renamed ρ x y) where
  steps_to :
      (k : K) (n p : ℕ) (a : Outcome K F) (w : Row) → Steps kd x.memory k n p a w → Steps kd y.memory k n (ρ.to p) a (renamed_row ρ.to w)
  steps_to k n p a w no_place =
      subst (λ (q : ℕ). Steps kd y.memory k n q a (row w.stage q w.steps)) (sym (to_zero ρ)) no_place
  steps_to k n p a w (finds _ v h c o) = finds (ρ.to p) (renamed_node ρ.to v) (to_past ρ p 0 (omega arith) h) (read_to ρ x y r p v c) o
  steps_to k n p a w (ends _ v h c o) =
      subst (λ (q : ℕ). Steps kd y.memory k n (ρ.to p) a (row w.stage q w.steps)) (sym (to_zero ρ))
      (ends (ρ.to p) (renamed_node ρ.to v) (to_past ρ p 0 (omega arith) h) (read_to ρ x y r p v c)
      (subst (Onward (seek (regions kd) k (region_of v)) (renamed_node ρ.to v)) (to_zero ρ) (onward_to ρ.to (seek (regions kd) k (region_of v)) v 0 o)))
  steps_to k n p a w (goes_on _ q v h c o i) =
      goes_on (ρ.to p) (ρ.to q) (renamed_node ρ.to v) (to_past ρ p 0 (omega arith) h) (read_to ρ x y r p v c)
      (onward_to ρ.to (seek (regions kd) k (region_of v)) v q o) (to_past ρ q 0 (omega arith) i)

  pub row_to : (s : ℕ) → row_of y s ≡ renamed_row ρ.to (row_of x s)
  row_to s =
      ap (λ (ws : List Row). get_or ws s (row closed 0 0)) r.rows ∙
      ap (λ (q : ℕ). get_or (map (renamed_row ρ.to) x.rows) s (row closed q 0)) (sym (to_zero ρ)) ∙
      get_or-map (renamed_row ρ.to) x.rows s (row closed 0 0)

  abbrev rows_as : List Row → List Row
  rows_as ws = map (renamed_row ρ.to) ws

  -- a row set before the renaming, and after
  set_to : (ws : List Row) (s : ℕ) (w w' : Row) → ws ≡ set x.rows s w → w' ≡ renamed_row ρ.to w → rows_as ws ≡ set y.rows s w'
  set_to ws s w w' e d =
      ap rows_as e ∙ map-set (renamed_row ρ.to) x.rows s w ∙
      ap (λ (us : List Row). set us s (renamed_row ρ.to w)) (sym r.rows) ∙ ap (set y.rows s) (sym d)

  kept_rows : (ws : List Row) → ws ≡ x.rows → rows_as ws ≡ y.rows
  kept_rows ws e = ap rows_as e ∙ sym r.rows

  step_tells_to :
      (s : ℕ) (l : Lookup K) (o : Option (First K)) (a : Outcome K F) (ws : List Row) → StepTells kd x s l o a ws → StepTells kd y s l o a (rows_as ws)
  step_tells_to s l (Some f) a ws h = (h.0, kept_rows ws h.1)
  step_tells_to s l None a ws h = (
    renamed_row ρ.to h.0,
    subst (λ (q : ℕ). Steps kd y.memory l.key l.steps q a (renamed_row ρ.to h.0)) (sym (ap (λ (w : Row). w.place) (row_to s)))
        (steps_to l.key l.steps (row_of x s).place a h.0 h.1),
    set_to ws s h.0 (renamed_row ρ.to h.0) h.2 refl,
  )

  step_answers_to :
      (s : ℕ) (o : Option (Lookup K)) (a : Outcome K F) (ws : List Row) → StepAnswers kd x s o a ws → StepAnswers kd y s o a (rows_as ws)
  step_answers_to s None a ws h = h
  step_answers_to s (Some l) a ws h = step_tells_to s l l.first a ws h

-- EDITS

path_length : {R : Type 0} (f : ℕ → ℕ) (fs : List (Frame ℕ R)) → length (relabel_path f fs) ≡ length fs
path_length f [] = refl
path_length f (frame s o x u ∷ fs) = ap suc (path_length f fs)

module _ {K : Type 0} {N : ℕ} (ρ : Renaming N) (x y : State (Cells K)) (r : Renamed ρ x y) where
  made_to :
      (u : Tree Label (Region K)) (t : Tree ℕ (Region K)) → MadeAs (Free x.memory) u t →
      MadeAs (Free y.memory) (relabel (renamed_label ρ.to) u) (relabel ρ.to t)
  made_to leaf leaf m = m
  made_to leaf (node n l z k) m = absurd m
  made_to (node o l z k) leaf m = absurd m
  made_to (node (kept j) l z k) (node n l' z' k') m = (ap ρ.to m.0, m.1, made_to l l' m.2, made_to k k' m.3)
  made_to (node new l z k) (node n l' z' k') m = (free_to ρ x y r n m.0, m.1, made_to l l' m.2, made_to k k' m.3)

new_moves :
    {N : ℕ} {R : Type 0} (ρ : Renaming N) (q : ℕ) (u : Tree Label R) (t : Tree ℕ R) →
    new_at q (relabel (renamed_label ρ.to) u) (relabel ρ.to t) ≡ new_at (ρ.from q) u t
new_moves ρ q leaf t = refl
new_moves ρ q (node o l z k) leaf = refl
new_moves ρ q (node (kept j) l z k) (node n l' z' k') = let a = new_moves ρ q l l' in let b = new_moves ρ q k k' in cc
new_moves ρ q (node new l z k) (node n l' z' k') = let a = new_moves ρ q l l' in let b = new_moves ρ q k k' in let c = eqb_moves ρ q n in cc

module _ {K F : Type 0} (kd : Kind K F) {N : ℕ} (ρ : Renaming N) (x y : State (Cells K)) (r : Renamed ρ x y) (h : History K F) (p : Place ℕ (Region K)) where
  abbrev before : Scene K F
  before = scene kd h x p

  abbrev after : Scene K F
  after = scene kd h y (relabel_place ρ.to p)

  pending_same : (e : Edit K (Region K)) → length (edited (regions kd) e (relabel_place ρ.to p)).above ≡ length (edited (regions kd) e p).above
  pending_same e = ap (λ (m : Made (Region K)). length m.above) (edits_rename (regions kd) ρ.to e p) ∙ path_length ρ.to (edited (regions kd) e p).above

  edit_answers_to :
      (o : Option (Edit K (Region K))) (a : Outcome K F) (ws : List Row) → EditsAnswer kd before o a ws → EditsAnswer kd after o a (rows_as kd ρ x y r ws)
  edit_answers_to None a ws e = e
  edit_answers_to (Some e) a ws d = (d.0 ∙ ap (λ (n : ℕ). Ok (Pending n)) (sym (pending_same e)), kept_rows kd ρ x y r ws d.1)

  answers_to : (c : Call K) (a : Outcome K F) (ws : List Row) → Answers kd before c a ws → Answers kd after c a (rows_as kd ρ x y r ws)
  answers_to (Put low high n) a ws d = edit_answers_to (edit_of (Put low high n)) a ws d
  answers_to (Drop k) a ws d = edit_answers_to (edit_of (Drop k)) a ws d
  answers_to (Split b m n) a ws d = edit_answers_to (edit_of (Split b m n)) a ws d
  answers_to Advance a ws d = edit_answers_to (edit_of Advance) a ws d
  answers_to (Open s k) a ws d = (d.0, set_to kd ρ x y r ws s (row going x.root 0) (row going y.root 0) d.1 (ap (λ (q : ℕ). row going q 0) r.root))
  answers_to (Step s) a ws d = step_answers_to kd ρ x y r s (lookup s h) a ws d
  answers_to (Close s) a ws d =
      (d.0, set_to kd ρ x y r ws s (as_closed (row_of x s)) (as_closed (row_of y s)) d.1 (ap as_closed (row_to kd ρ x y r s)))
  answers_to Counts a ws d =
      let live = marks_same ρ x y r 1 in let waits = marks_same ρ x y r 2 in let free = marks_same ρ x y r 0 in
      let e = d.0 in
      ((cc), kept_rows kd ρ x y r ws d.1)

  tree_after_to :
      (o : Option (Edit K (Region K))) (q : Place ℕ (Region K)) → TreeAfter kd o before q → TreeAfter kd o after (relabel_place ρ.to q)
  tree_after_to None q e = relabel_plug ρ.to q.above q.under ∙ ap (relabel ρ.to) e ∙ sym (relabel_plug ρ.to p.above p.under)
  tree_after_to (Some e) q n =
      let m = edited (regions kd) e p in
      subst (λ (w : Made (Region K)). NumberedAs kd y.memory w (relabel_place ρ.to q)) (sym (edits_rename (regions kd) ρ.to e p))
      (record {
        path = ap (relabel_path ρ.to) n.path;
        numbered = made_to ρ x y r m.grown q.under n.numbered;
        once = λ j. let a = new_moves ρ j m.grown q.under in let b = n.once (ρ.from j) in omega arith;
      })

  pending_to : (o : Option (Edit K (Region K))) → map ρ.to (pending_after kd o before) ≡ pending_after kd o after
  pending_to None = sym r.pending
  pending_to (Some e) =
      sym (relabel_labels ρ.to (edited (regions kd) e p).above) ∙
      ap (λ (m : Made (Region K)). labels m.above) (sym (edits_rename (regions kd) ρ.to e p))

  size_moves : (c : Call K) (n was : ℕ) → size_after kd c (relabel_place ρ.to p) n was ≡ size_after kd c p (ρ.from n) was
  size_moves (Put low high rows) n was = refl
  size_moves (Drop k) n was = refl
  size_moves (Split b i j) n was = refl
  size_moves Advance n was = by_path p.above p.under
    where
      by_path :
          (fs : List (Frame ℕ (Region K))) (t : Tree ℕ (Region K)) →
          treated_size kd (relabel_path ρ.to fs) (relabel ρ.to t) n was ≡ treated_size kd fs t (ρ.from n) was
      by_path [] t = refl
      by_path (frame s m w u ∷ fs) t =
          let a = eqb_moves ρ n m in let b = relabel_count ρ.to t in let d = relabel_count ρ.to u in cc
  size_moves (Open s k) n was = refl
  size_moves (Step s) n was = refl
  size_moves (Close s) n was = refl
  size_moves Counts n was = refl

  -- a line that fits after the renaming fitted before it
  fits_back : (c : Call K) (e : Refusal F) → Fits kd after c e → Fits kd before c e
  fits_back c e f =
      subst (λ (q : Place ℕ (Region K)). Fits kd (scene kd h x q) c e) (place_back ρ.to ρ.from ρ.from_to p)
      (fits_to kd (inverse ρ) y x (renamed_back ρ x y r) h (relabel_place ρ.to p) c e f)

  first_line_to : (c : Call K) (e : Refusal F) → FirstLine kd before c e → FirstLine kd after c e
  first_line_to c e l = record { fits = fits_to kd ρ x y r h p c e l.fits; smallest = λ e' f. l.smallest e' (fits_back c e' f) }

  -- x' and y' are the states after the call
  module _ (x' y' : State (Cells K)) (r' : Renamed ρ x' y') (c : Call K) (a : Outcome K F) (q : Place ℕ (Region K)) where
    done_to : Done kd before c a x' q → Done kd after c a y' (relabel_place ρ.to q)
    done_to d =
        let back = renamed_back ρ x y r in
        let back' = renamed_back ρ x' y' r' in
        record {
          answers = subst (λ (ws : List Row). Answers kd after c a ws) (sym r'.rows) (answers_to c a x'.rows d.answers);
          tree_made = tree_after_to (edit_of c) q d.tree_made;
          pending_made = r'.pending ∙ ap (map ρ.to) d.pending_made ∙ pending_to (edit_of c);
          size_kept = λ n v w m cv cw.
              d.size_kept (ρ.from n) (renamed_node ρ.from v) (renamed_node ρ.from w)
              (subst T (ap (member n) r'.pending ∙ member_moves ρ n x'.pending) m)
              (read_to (inverse ρ) y x back n v cv) (read_to (inverse ρ) y' x' back' n w cw);
          waiting_kept = λ n v m cv.
              let k = d.waiting_kept (ρ.from n) (renamed_node ρ.from v) (mark_to (inverse ρ) y' x' back' n ∙ m) (read_to (inverse ρ) y x back n v cv) in (
                k.0,
                ap (cell_at y'.memory) (sym (ρ.to_from n)) ∙ read_to ρ x' y' r' (ρ.from n) _ k.1 ∙
                    ap (λ (u : Node K). readable (waiting u (size_after kd c p (ρ.from n) v.size) k.0)) (node_back (inverse ρ) v) ∙
                    ap (λ (j : ℕ). readable (waiting v j k.0)) (sym (size_moves c n v.size)),
              );
        }

    unaltered_to : Unaltered kd before x' q → Unaltered kd after y' (relabel_place ρ.to q)
    unaltered_to u =
        let there = λ (j : ℕ). ap (cell_at y.memory) (sym (ρ.to_from j)) in
        let there' = λ (j : ℕ). ap (cell_at y'.memory) (sym (ρ.to_from j)) in
        record {
          same_root = r'.root ∙ ap ρ.to u.same_root ∙ sym r.root;
          same_pending = r'.pending ∙ ap (map ρ.to) u.same_pending ∙ sym r.pending;
          same_rows = r'.rows ∙ ap (map (renamed_row ρ.to)) u.same_rows ∙ sym r.rows;
          same_tree = tree_after_to None q u.same_tree;
          same_cells = λ j.
              elim (u.same_cells (ρ.from j)) [
                | inl e ↦
                    inl (there' j ∙ r'.nodes (ρ.from j) ∙ ap (renamed_cell ρ.to) e ∙ sym (r.nodes (ρ.from j)) ∙ sym (there j))
                | inr e ↦
                    inr (ap mark_of (there j) ∙ mark_to ρ x y r (ρ.from j) ∙ e.0, ap mark_of (there' j) ∙ mark_to ρ x' y' r' (ρ.from j) ∙ e.1)
              ];
        }

    pub exact_to : Exact kd before c a x' q → Exact kd after c a y' (relabel_place ρ.to q)
    exact_to e = record {
      refused_by = λ f d. first_line_to c f (e.refused_by f d);
      refused_if = λ f d. e.refused_if f (fits_back c f d);
      refused_alters = λ d. unaltered_to (e.refused_alters d);
      accepted_does = λ d. done_to (e.accepted_does d);
    }
