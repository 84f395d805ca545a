-- One call of a run: what it does to the tree, and to the nodes that have left the tree since a lookup was opened.
use Rattle.std.proofs.Common.{◌≡◌, ℕ, ◌≤◌, Bool, true, false, T, ◌⊎◌, List, ◌∷◌, length, Some, None, Option, sym, refl, ap, ◌∙◌, subst, inl, inr, arith}
use Rattle.store.specs.declared.node.Region.{Region}
use Rattle.store.specs.Cells.{mark_of, cell_at}
use Rattle.trees.specs.Regions.{Laws, gives}
use Rattle.trees.specs.Trees.{Tree, found, seek}
use Rattle.trees.specs.Edits.{Place, whole, Edit}
use Rattle.trees.specs.Paths.{In, KeepsPath, KeepsOrder, KeepsRegions}
use Rattle.trees.specs.Steps.{StepsWell}
use Rattle.trees.proofs.Spells.{set_finds}
use Rattle.runs.specs.Calls.{Kind, regions, edit_of, accepted}
use Rattle.runs.specs.Histories.{open_since}
use Rattle.runs.specs.States.{State, Cells}
use Rattle.runs.specs.Effects.{TreeAfter, Done}
use Rattle.runs.specs.Runs.{Turn, history, state}
use Rattle.runs.proofs.Links.{leads_in, in_leads}
use Rattle.lookups.specs.Ways.{KeptNode, Waits, HoldsOn, GoingAt, FoundAt}
use Rattle.lookups.specs.Throughout.{scene_after, RestKept, CallKept, TreeSteps}
use Rattle.lookups.proofs.Carries.{path_same, order_same, regions_same, tree_stays, carried, found_carried}
use Rattle.lookups.proofs.Moments.{history_length, left_now, LeftSince, still_left, SetGave, gave_later, gives_now}

module _ {K F : Type 0} (kd : Kind K F) (z : State (Cells K)) where
  -- a node that left since has mark 2, as long as the lookup is open
  pub left_marked :
      (ts : List (Turn (Cells K) K F)) (p : Place ℕ (Region K)) (s since : ℕ) → RestKept kd z ts p → ((i : ℕ) → since ≤ i → T (open_since (history ts) i s)) →
      (q : ℕ) → LeftSince z ts since q → mark_of (cell_at (state z ts).memory q) ≡ 2
  left_marked ts p s since rest still q l =
      let w = rest.others.waits q l.moment s l.left (still l.moment l.not_before) in ap mark_of w.1 ∙ w.2

  module _ (t : Turn (Cells K) K F) (ts : List (Turn (Cells K) K F)) (p p' : Place ℕ (Region K)) (rest : RestKept kd z ts p) (rest' : RestKept kd z (t ∷ ts) p')
      (call : CallKept kd z ts t.call t.answer t.after p p') where
    -- an edit, or the tree stays
    by_change :
        (P : Tree ℕ (Region K) → Tree ℕ (Region K) → Type 0) → (whole p' ≡ whole p → P (whole p) (whole p')) →
        ((e : Edit K (Region K)) → StepsWell (regions kd) e p p' → P (whole p) (whole p')) → P (whole p) (whole p')
    by_change P same edit = by_answer (accepted t.answer) refl
      where
        by_edit :
            (o : Option (Edit K (Region K))) → edit_of t.call ≡ o → accepted t.answer ≡ true → TreeAfter kd o (scene_after z ts p) p' → P (whole p) (whole p')
        by_edit None e a m = same m
        by_edit (Some d) e a m = edit d (call.steps d e a).well

        by_answer : (b : Bool) → accepted t.answer ≡ b → P (whole p) (whole p')
        by_answer true a = by_edit (edit_of t.call) refl a (call.exact.accepted_does a).tree_made
        by_answer false a = same (call.exact.refused_alters a).same_tree

    keeps_path : (k : K) → kd.fault k ≡ None → KeepsPath (seek (regions kd) k) (whole p) (whole p')
    keeps_path k f = by_change (KeepsPath (seek (regions kd) k)) (λ e. path_same (whole p) (whole p') e (seek (regions kd) k)) (λ e w. w.paths k f)

    keeps_order : (k : K) → kd.fault k ≡ None → KeepsOrder (seek (regions kd) k) (whole p) (whole p')
    keeps_order k f = by_change (KeepsOrder (seek (regions kd) k)) (λ e. order_same (whole p) (whole p') e (seek (regions kd) k)) (λ e w. w.orders k f)

    keeps_regions : KeepsRegions (whole p) (whole p')
    keeps_regions = by_change KeepsRegions (regions_same (whole p) (whole p')) (λ e w. w.regions)

    -- a lookup of session s that was open before the call and is open after it
    module _ (s since : ℕ) (early : since ≤ length ts) (was_open : (i : ℕ) → since ≤ i → T (open_since (history ts) i s))
        (is_open : (i : ℕ) → since ≤ i → T (open_since (history (t ∷ ts)) i s)) where
      was_two : (q : ℕ) → LeftSince z ts since q → mark_of (cell_at (state z ts).memory q) ≡ 2
      was_two = left_marked ts p s since rest was_open

      is_two : (q : ℕ) → LeftSince z (t ∷ ts) since q → mark_of (cell_at t.after.memory q) ≡ 2
      is_two = left_marked (t ∷ ts) p' s since rest' is_open

      -- by an accepted call a node that has left keeps its links and region
      left_kept :
          Done kd (scene_after z ts p) t.call t.answer t.after p' → (q : ℕ) → LeftSince z (t ∷ ts) since q →
          KeptNode (state z ts).memory t.after.memory q
      left_kept d q l v c = let k = d.waiting_kept q v (is_two q l) c in (_, k.1, record { same_left = refl; same_right = refl; same_region = refl })

      leaves_now : (q : ℕ) → In q (whole p) → (In q (whole p') → ⊥) → LeftSince z (t ∷ ts) since q
      leaves_now q i o = record {
        moment = length ts;
        not_before = early;
        left = left_now z t ts q (in_leads (state z ts).memory (state z ts).pending (state z ts).root q (whole p) rest.tree_stands.spelled i)
            (λ k. o (leads_in t.after.memory t.after.pending t.after.root t.after.root q (whole p') k refl rest'.tree_stands.spelled));
      }

      holds_on : HoldsOn (LeftSince z ts since) (LeftSince z (t ∷ ts) since) (state z ts).memory t.after.memory (whole p) (whole p')
      holds_on = by_answer (accepted t.answer) refl
        where
          -- a refused call leaves it as it is
          as_it_was :
              (q : ℕ) → LeftSince z ts since q →
              (cell_at t.after.memory q ≡ cell_at (state z ts).memory q) ⊎ ((mark_of (cell_at (state z ts).memory q) ≡ 0) × (mark_of (cell_at t.after.memory q) ≡ 0)) →
              KeptNode (state z ts).memory t.after.memory q
          as_it_was q l (inl e) v c = (v, e ∙ c, record { same_left = refl; same_right = refl; same_region = refl })
          as_it_was q l (inr e) v c = absurd (let a = was_two q l in let b = e.0 in let f : ⊥ = omega arith in f)

          not_free : (q : ℕ) → Waits (LeftSince z ts since) (whole p) q → (e : Edit K (Region K)) → TreeSteps kd (state z ts).memory e p p' → In q (whole p') → ⊥
          not_free q w e st i = elim (st.taken q i) [ inl j ↦ w.out_of_tree j | inr f ↦ (let a = was_two q w.held in let b = f.mark_zero in omega arith) ]

          by_edit :
              (o : Option (Edit K (Region K))) → edit_of t.call ≡ o → accepted t.answer ≡ true →
              Done kd (scene_after z ts p) t.call t.answer t.after p' →
              TreeAfter kd o (scene_after z ts p) p' →
              HoldsOn (LeftSince z ts since) (LeftSince z (t ∷ ts) since) (state z ts).memory t.after.memory (whole p) (whole p')
          by_edit None e a d m =
              tree_stays (LeftSince z ts since) (LeftSince z (t ∷ ts) since) (state z ts).memory t.after.memory (whole p) (whole p') m
              (λ q w. let l = still_left z t ts since q w.held in (l, left_kept d q l))
          by_edit (Some j) e a d m = record {
            leaving = λ q i o. let l = leaves_now q i o in (l, left_kept d q l);
            waiting = λ q w. let l = still_left z t ts since q w.held in (l, left_kept d q l);
            not_taken = λ q w i. not_free q w j (call.steps j e a) i;
          }

          by_answer :
              (b : Bool) → accepted t.answer ≡ b →
              HoldsOn (LeftSince z ts since) (LeftSince z (t ∷ ts) since) (state z ts).memory t.after.memory (whole p) (whole p')
          by_answer true a = let d = call.exact.accepted_does a in by_edit (edit_of t.call) refl a d d.tree_made
          by_answer false a =
              let u = call.exact.refused_alters a in
              tree_stays (LeftSince z ts since) (LeftSince z (t ∷ ts) since) (state z ts).memory t.after.memory (whole p) (whole p') u.same_tree
              (λ q w. (still_left z t ts since q w.held, as_it_was q w.held (u.same_cells q)))

      pub found_on :
          (q : ℕ) (x : Region K) → FoundAt (LeftSince z ts since) (state z ts).memory (whole p) q x →
          FoundAt (LeftSince z (t ∷ ts) since) t.after.memory (whole p') q x
      found_on =
          found_carried (LeftSince z ts since) (LeftSince z (t ∷ ts) since) (state z ts).memory t.after.memory (whole p) (whole p') holds_on keeps_regions
          (state z ts).pending t.after.pending (state z ts).root t.after.root rest.tree_stands.spelled rest'.tree_stands.spelled

      pub going_on :
          (k : K) (link : ℕ) (seen : List ℕ) → kd.fault k ≡ None → SetGave kd (history ts) since k (found (seek (regions kd) k) (whole p)) →
          GoingAt (LeftSince z ts since) (SetGave kd (history ts) since k) (seek (regions kd) k) (state z ts).memory (whole p) link seen →
          GoingAt (LeftSince z (t ∷ ts) since) (SetGave kd (history (t ∷ ts)) since k) (seek (regions kd) k) t.after.memory (whole p') link seen
      going_on k link seen f now g =
          carried (LeftSince z ts since) (LeftSince z (t ∷ ts) since) (state z ts).memory t.after.memory (whole p) (whole p') holds_on
          (SetGave kd (history ts) since k) (SetGave kd (history (t ∷ ts)) since k) (seek (regions kd) k) (keeps_path k f) (keeps_order k f)
          rest.stands.distinct rest'.stands.distinct (gave_later kd _ (history ts) since k) now link seen g t.after.pending t.after.root
          rest'.tree_stands.spelled

-- what the search finds at a moment is what the region set gives then
pub finds_now :
    {K F : Type 0} (kd : Kind K F) → Laws (regions kd) → (z : State (Cells K)) (ts : List (Turn (Cells K) K F)) (p : Place ℕ (Region K)) (since : ℕ) (k : K) →
    RestKept kd z ts p → kd.fault k ≡ None → since ≤ length ts → SetGave kd (history ts) since k (found (seek (regions kd) k) (whole p))
finds_now {K} kd laws z ts p since k rest f i =
    let n = history_length ts in
    subst (SetGave kd (history ts) since k)
    (sym (set_finds (regions kd) laws (whole p) k rest.stands.set f ∙ ap (λ (xs : List (Region K)). gives (regions kd) xs k) rest.tree_spells))
    (gives_now kd (history ts) since k (omega arith))
