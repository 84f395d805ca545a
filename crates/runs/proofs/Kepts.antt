-- What is promised at a moment of a run is promised of the run renamed.
use Rattle.std.proofs.Common.{◌≡◌, ℕ, suc, ◌-◌, ◌≤◌, T, eqb, List, [], ◌∷◌, length, Some, sym, ap, ◌∙◌, subst, inl, inr, arith}
use lib.ListN.{length-map}
use Rattle.store.specs.Cells.{Cell, shut, readable, mark_of, cell_at}
use Rattle.store.specs.Fits.{InRange, FitCells}
use Rattle.trees.specs.Regions.{RegionSet}
use Rattle.trees.specs.Trees.{Tree, inorder, height, Balanced}
use Rattle.trees.specs.Edits.{Place, whole}
use Rattle.trees.specs.Paths.{inside}
use Rattle.store.specs.Nodes.{plain}
use Rattle.store.specs.declared.node.Region.{Region}
use Rattle.requests.specs.declared.call.Call.{Call}
use Rattle.runs.specs.Calls.{Kind, regions, Outcome}
use Rattle.runs.specs.Histories.{History, Lookup, lookup, set_of, to_do, open_since, seat_key, bits}
use Rattle.runs.specs.States.{State, Cells, Row, row_of, pool, waiting_nodes, InTree}
use Rattle.runs.specs.Effects.{Exact}
use Rattle.runs.specs.Runs.{Turn, history, state, LeftDuring, NumberOf}
use Rattle.runs.specs.Promise.{None14, LastExact, OtherNodes, TrueAt, PlaceStands, Kept}
use Rattle.runs.specs.Renamings.{relabel, relabel_place, Renaming, renamed_node, renamed_cell, Renamed, RenamedTurns, KeptRenames}
use Rattle.runs.proofs.Marks.{marks_same}
use Rattle.runs.proofs.Renames.{to_zero, inverse, inside_moves, renamed_back, read_to, mark_to, pool_to, tree_to, in_tree_to, relabel_order, relabel_height, relabel_balanced, relabel_plug, place_back}
use Rattle.runs.proofs.Carries.{turns_history, turns_back, state_to, left_after_to, left_during_to, number_to, scene}
use Rattle.runs.proofs.Deeds.{row_to, exact_to}

shut_was : {K : Type 0} (f : ℕ → ℕ) (c : Cell K) (m : ℕ) → renamed_cell f c ≡ shut m → c ≡ shut m
shut_was f (shut k) m e = e
shut_was f (readable v) m e = absurd (let z : ◌≡◌ {A = ℕ} 0 1 = cc in let b : ⊥ = omega arith in b)

module _ {K F : Type 0} (kd : Kind K F) {N : ℕ} (ρ : Renaming N) (z y : State (Cells K)) (r : Renamed ρ z y) where
  fit_to : (x x' : State (Cells K)) → Renamed ρ x x' → FitCells x.memory → FitCells x'.memory
  fit_to x x' s f = record {
    range = subst InRange (s.has_nodes ∙ sym s.as_many) f.range;
    free = λ n m e.
        f.free (ρ.from n) m
        (shut_was ρ.to (cell_at x.memory (ρ.from n)) m (sym (s.nodes (ρ.from n)) ∙ ap (cell_at x'.memory) (ρ.to_from n) ∙ e));
  }

  last_exact_to :
      (ts us : List (Turn (Cells K) K F)) (q : Place ℕ (Region K)) → RenamedTurns ρ ts us → LastExact kd z ts q →
      LastExact kd y us (relabel_place ρ.to q)
  last_exact_to [] [] q h e = tt
  last_exact_to [] (u ∷ us) q h e = absurd h
  last_exact_to (t ∷ ts) [] q h e = absurd h
  last_exact_to (t ∷ ts) (u ∷ us) q h e = λ p s.
      let r₀ = state_to ρ z y ts us r h.3 in
      let p₀ : Place ℕ (Region K) = relabel_place ρ.from p in
      let was = tree_to (inverse ρ) (state y us) (state z ts) (renamed_back ρ (state z ts) (state y us) r₀) p s in
      let a = exact_to kd ρ (state z ts) (state y us) r₀ (history ts) p₀ t.after u.after h.2 t.call t.answer q (e p₀ was) in
      let E : History K F → Place ℕ (Region K) → Call K → Outcome K F → Type 0 =
      λ g w c b. Exact kd (scene kd g (state y us) w) c b u.after (relabel_place ρ.to q) in
      let a₁ : E (history us) (relabel_place ρ.to p₀) t.call t.answer =
      subst (λ (g : History K F). E g (relabel_place ρ.to p₀) t.call t.answer) (sym (turns_history ρ ts us h.3)) a in
      let a₂ : E (history us) p t.call t.answer =
      subst (λ (w : Place ℕ (Region K)). E (history us) w t.call t.answer) (place_back ρ.from ρ.to ρ.to_from p) a₁ in
      let a₃ : E (history us) p u.call t.answer = subst (λ (c : Call K). E (history us) p c t.answer) (sym h.0) a₂ in
      subst (λ (b : Outcome K F). E (history us) p u.call b) (sym h.1) a₃

  module _ (ts us : List (Turn (Cells K) K F)) (h : RenamedTurns ρ ts us) where
    abbrev same : history us ≡ history ts
    same = turns_history ρ ts us h

    abbrev now : Renamed ρ (state z ts) (state y us)
    now = state_to ρ z y ts us r h

    abbrev back : Renamed (inverse ρ) (state y us) (state z ts)
    back = renamed_back ρ (state z ts) (state y us) now

    others_to : OtherNodes kd z ts → OtherNodes kd y us
    others_to o = record {
      as_many = now.as_many ∙ sym r.as_many;
      seats = λ s l.
          ap (cell_at (state y us).memory) (sym (ρ.seats_stay (suc s) l)) ∙ read_to ρ (state z ts) (state y us) now (suc s) _ (o.seats s l) ∙
          ap (λ (n : ℕ). readable (record { mark = 3; left = n; right = n; size = 0; rows = 0; waits = 0; low = seat_key kd.filler s (history ts); high = kd.filler }))
          (to_zero ρ) ∙
          ap (λ (g : History K F). readable (plain 3 (seat_key kd.filler s g) kd.filler)) (sym same);
      waits = λ q i s l t.
          let w =
          o.waits (ρ.from q) i s (left_after_to (inverse ρ) y z us ts i q (renamed_back ρ z y r) (turns_back ρ ts us h) l)
          (subst (λ (g : History K F). T (open_since g i s)) same t) in (
            renamed_node ρ.to w.0,
            ap (cell_at (state y us).memory) (sym (ρ.to_from q)) ∙ read_to ρ (state z ts) (state y us) now (ρ.from q) w.0 w.1,
            w.2,
            w.3 ∙ ap (λ (g : History K F). bits (open_since g i) 32) (sym same),
          );
      rest_free = λ q p t l.
          ap (λ (n : ℕ). mark_of (cell_at (state y us).memory n)) (sym (ρ.to_from q)) ∙
          mark_to ρ (state z ts) (state y us) now (ρ.from q) ∙
          o.rest_free (ρ.from q) (pool_to (inverse ρ) (state y us) (state z ts) back q p)
          (λ k. t (subst (InTree (state y us)) (ρ.to_from q) (in_tree_to ρ (state z ts) (state y us) now (ρ.from q) k)))
          (λ k. l (subst (LeftDuring y us) (ρ.to_from q) (left_during_to ρ z y ts us (ρ.from q) r h k)));
    }

    place_to : (p : ℕ) → PlaceStands kd z ts p → PlaceStands kd y us (ρ.to p)
    place_to p (inl e) = inl (ap ρ.to e ∙ to_zero ρ)
    place_to p (inr (v, e, inl t)) = inr (renamed_node ρ.to v, read_to ρ (state z ts) (state y us) now p v e, inl (in_tree_to ρ (state z ts) (state y us) now p t))
    place_to p (inr (v, e, inr l)) = inr (renamed_node ρ.to v, read_to ρ (state z ts) (state y us) now p v e, inr (left_during_to ρ z y ts us p r h l))

    abbrev pool_same : pool y.memory ≡ pool z.memory
    pool_same = ap (λ (n : ℕ). n - 32) (r.as_many ∙ sym r.has_nodes)

    -- the lookups are those of the same history
    lookup_was : (s : ℕ) (l : Lookup K) → lookup s (history us) ≡ Some l → lookup s (history ts) ≡ Some l
    lookup_was s l e = ap (lookup s) (sym same) ∙ e

    whole_to : (p : Place ℕ (Region K)) → whole (relabel_place ρ.to p) ≡ relabel ρ.to (whole p)
    whole_to p = relabel_plug ρ.to p.above p.under

    at_rest_was : to_do (history us) ≡ 0 → to_do (history ts) ≡ 0
    at_rest_was e = ap to_do (sym same) ∙ e

    pub kept_to : Kept kd z ts → Kept kd y us
    kept_to k = record {
      store_fit = fit_to (state z ts) (state y us) now k.store_fit;
      place = relabel_place ρ.to k.place;
      tree_stands = tree_to ρ (state z ts) (state y us) now k.place k.tree_stands;
      tree_spells = ap inorder (whole_to k.place) ∙ relabel_order ρ.to (whole k.place) ∙ k.tree_spells ∙ ap (set_of kd) (sym same);
      tree_distinct = λ q.
          subst (λ (t : Tree ℕ (Region K)). inside (eqb q) t ≤ 1) (sym (whole_to k.place))
          (let a = inside_moves ρ q (whole k.place) in let b = k.tree_distinct (ρ.from q) in omega arith);
      set_is_one = subst (λ (g : History K F). RegionSet (regions kd) (set_of kd g)) (sym same) k.set_is_one;
      exact = last_exact_to ts us k.place h k.exact;
      others = others_to k.others;
      edit_told = ap to_do same ∙ k.edit_told ∙ sym (ap length now.pending ∙ length-map (state z ts).pending ρ.to);
      lookups_true = λ s l f e d.
          subst (λ (g : History K F). TrueAt kd g l f) (sym same) (k.lookups_true s l f (lookup_was s l e) d);
      none_14 = subst None14 (sym same) k.none_14;
      places_stand = λ s l e.
          subst (PlaceStands kd y us) (sym (ap (λ (w : Row). w.place) (row_to kd ρ (state z ts) (state y us) now s)))
          (place_to (row_of (state z ts) s).place (k.places_stand s l (lookup_was s l e)));
      lookups_end = λ s l e n f. k.lookups_end s l (lookup_was s l e) (subst (λ (m : ℕ). m ≤ l.steps) pool_same n) f;
      adds_up = let a = marks_same ρ (state z ts) (state y us) now 1 in let b = marks_same ρ (state z ts) (state y us) now 2 in let c = marks_same ρ (state z ts) (state y us) now 0 in let d = k.adds_up in let e = pool_same in omega arith;
      live_are_regions = marks_same ρ (state z ts) (state y us) now 1 ∙ k.live_are_regions ∙ ap (λ (g : History K F). length (set_of kd g)) (sym same);
      waiting_have_left = subst (NumberOf (LeftDuring y us)) (sym (marks_same ρ (state z ts) (state y us) now 2)) (number_to ρ z y ts us r h (waiting_nodes (state z ts).memory) k.waiting_have_left);
      balanced_at_rest = λ e. subst Balanced (sym (whole_to k.place)) (relabel_balanced ρ.to (whole k.place) (k.balanced_at_rest (at_rest_was e)));
      low_at_rest = λ e.
          let a = ap height (whole_to k.place) ∙ relabel_height ρ.to (whole k.place) in let b = k.low_at_rest (at_rest_was e) in omega arith;
    }

pub kept_renames : {K F : Type 0} (kd : Kind K F) → KeptRenames kd
kept_renames kd N ρ z y ts us r h k = kept_to kd ρ z y r ts us h k
