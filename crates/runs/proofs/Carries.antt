-- The promise under a renaming of nodes: the nodes that left, the table, what a call does.
use Rattle.std.proofs.Common.{◌≡◌, ℕ, zero, suc, ◌-◌, Bool, cond, T, List, [], ◌∷◌, map, length, drop, sym, refl, ap, ◌∙◌, subst, arith}
use lib.ListN.{length-map}
use Rattle.store.specs.Fits.{InRange}
use Rattle.trees.specs.Trees.{Tree, leaf, node, count, seek}
use Rattle.trees.specs.Rotations.{too_heavy}
use Rattle.trees.specs.Edits.{Frame, frame, Place, standing, descend, whole}
use Rattle.store.specs.declared.node.Region.{Region}
use Rattle.requests.specs.declared.call.Call.{Call}
use Rattle.requests.specs.declared.call.Call.TheVariants.{Put, Drop, Split, Advance, Open, Step, Close, Counts}
use Rattle.runs.specs.declared.call.Refusal.{Refusal}
use Rattle.runs.specs.Calls.{Kind, regions}
use Rattle.runs.specs.Histories.{History, open_since}
use Rattle.runs.specs.States.{State, Cells, InTree}
use Rattle.runs.specs.Table.{Scene, both_sides, rotates, found_under, free_needed, Fits, size, no_session, has_lookup, no_lookup, ill_formed, not_below, under_way, at_rest, overlapping, no_region, same_as_low, full, few_free}
use Rattle.runs.specs.Runs.{Turn, history, state, state_at, LeftAfter, LeftDuring, NumberOf}
use Rattle.runs.specs.Renamings.{relabel, relabel_path, relabel_place, Renaming, Renamed, RenamedTurns}
use Rattle.runs.proofs.Relabels.{relabel_count, descend_as}
use Rattle.runs.proofs.Marks.{different_to, marks_same}
use Rattle.runs.proofs.Renames.{relabel_plug, inverse, member_moves, renamed_back, in_tree_to}

-- RUNS

module _ {K F : Type 0} {N : ℕ} (ρ : Renaming N) where
  pub turns_length : (ts us : List (Turn (Cells K) K F)) → RenamedTurns ρ ts us → length us ≡ length ts
  turns_length [] [] r = refl
  turns_length [] (u ∷ us) r = absurd r
  turns_length (t ∷ ts) [] r = absurd r
  turns_length (t ∷ ts) (u ∷ us) r = ap suc (turns_length ts us r.3)

  pub turns_history : (ts us : List (Turn (Cells K) K F)) → RenamedTurns ρ ts us → history us ≡ history ts
  turns_history [] [] r = refl
  turns_history [] (u ∷ us) r = absurd r
  turns_history (t ∷ ts) [] r = absurd r
  turns_history (t ∷ ts) (u ∷ us) r = let a = turns_history ts us r.3 in let b = r.0 in let c = r.1 in cc

  pub turns_drop : (k : ℕ) (ts us : List (Turn (Cells K) K F)) → RenamedTurns ρ ts us → RenamedTurns ρ (drop k ts) (drop k us)
  turns_drop zero ts us r = r
  turns_drop (suc k) [] [] r = r
  turns_drop (suc k) [] (u ∷ us) r = absurd r
  turns_drop (suc k) (t ∷ ts) [] r = absurd r
  turns_drop (suc k) (t ∷ ts) (u ∷ us) r = turns_drop k ts us r.3

  pub turns_back : (ts us : List (Turn (Cells K) K F)) → RenamedTurns ρ ts us → RenamedTurns (inverse ρ) us ts
  turns_back [] [] r = tt
  turns_back [] (u ∷ us) r = absurd r
  turns_back (t ∷ ts) [] r = absurd r
  turns_back (t ∷ ts) (u ∷ us) r = (sym r.0, sym r.1, renamed_back ρ t.after u.after r.2, turns_back ts us r.3)

  pub state_to : (z y : State (Cells K)) (ts us : List (Turn (Cells K) K F)) → Renamed ρ z y → RenamedTurns ρ ts us → Renamed ρ (state z ts) (state y us)
  state_to z y [] [] r h = r
  state_to z y [] (u ∷ us) r h = absurd h
  state_to z y (t ∷ ts) [] r h = absurd h
  state_to z y (t ∷ ts) (u ∷ us) r h = h.2

  state_at_to :
      (z y : State (Cells K)) (ts us : List (Turn (Cells K) K F)) (m : ℕ) → Renamed ρ z y → RenamedTurns ρ ts us →
      Renamed ρ (state_at z ts m) (state_at y us m)
  state_at_to z y ts us m r h =
      subst (λ (k : ℕ). Renamed ρ (state_at z ts m) (state y (drop (k - m) us))) (sym (turns_length ts us h))
      (state_to z y (drop (length ts - m) ts) (drop (length ts - m) us) r (turns_drop (length ts - m) ts us h))

  pub left_after_to :
      (z y : State (Cells K)) (ts us : List (Turn (Cells K) K F)) (i q : ℕ) → Renamed ρ z y → RenamedTurns ρ ts us →
      LeftAfter z ts i q → LeftAfter y us i (ρ.to q)
  left_after_to z y ts us i q r h l =
      let after = state_at_to z y ts us (suc i) r h in
      record {
        within = let a = turns_length ts us h in let b = l.within in omega arith;
        was_in = in_tree_to ρ (state_at z ts i) (state_at y us i) (state_at_to z y ts us i r h) q l.was_in;
        is_out = λ k.
            l.is_out (subst (InTree (state_at z ts (suc i))) (ρ.from_to q)
            (in_tree_to (inverse ρ) (state_at y us (suc i)) (state_at z ts (suc i)) (renamed_back ρ (state_at z ts (suc i)) (state_at y us (suc i)) after) (ρ.to q) k));
      }

  pub left_during_to :
      (z y : State (Cells K)) (ts us : List (Turn (Cells K) K F)) (q : ℕ) → Renamed ρ z y → RenamedTurns ρ ts us →
      LeftDuring z ts q → LeftDuring y us (ρ.to q)
  left_during_to z y ts us q r h l = record {
    moment = l.moment;
    session = l.session;
    left = left_after_to z y ts us l.moment q r h l.left;
    still_open = subst (λ (e : History K F). T (open_since e l.moment l.session)) (sym (turns_history ts us h)) l.still_open;
  }

-- as many nodes after the renaming
module _ {K F : Type 0} {N : ℕ} (ρ : Renaming N) (z y : State (Cells K)) (ts us : List (Turn (Cells K) K F)) (r : Renamed ρ z y) (h : RenamedTurns ρ ts us) where
  pub left_during_from : (q : ℕ) → LeftDuring y us q → LeftDuring z ts (ρ.from q)
  left_during_from q l = left_during_to (inverse ρ) y z us ts q (renamed_back ρ z y r) (turns_back ρ ts us h) l

  pub number_to : (n : ℕ) → NumberOf (LeftDuring z ts) n → NumberOf (LeftDuring y us) n
  number_to n a = record {
    nodes = map ρ.to a.nodes;
    different = different_to ρ a.nodes a.different;
    each = λ q m. subst (LeftDuring y us) (ρ.to_from q) (left_during_to ρ z y ts us (ρ.from q) r h (a.each (ρ.from q) (subst T (member_moves ρ q a.nodes) m)));
    every = λ q l. subst T (sym (member_moves ρ q a.nodes)) (a.every (ρ.from q) (left_during_from q l));
    many = length-map a.nodes ρ.to ∙ a.many;
  }

-- THE TABLE

standing_count : {R : Type 0} (t : Tree ℕ R) → count (standing t) ≡ count t
standing_count leaf = refl
standing_count (node n l x r) = let a = standing_count l in let b = standing_count r in cc

module _ {R : Type 0} (f : ℕ → ℕ) where
  both_sides_as : (t : Tree ℕ R) → both_sides (relabel f t) ≡ both_sides t
  both_sides_as leaf = refl
  both_sides_as (node n leaf x r) = refl
  both_sides_as (node n (node m a y b) x leaf) = refl
  both_sides_as (node n (node m a y b) x (node j c z d)) = refl

  heavier_as : (t u : Tree ℕ R) → too_heavy (standing (relabel f t)) (standing (relabel f u)) ≡ too_heavy (standing t) (standing u)
  heavier_as t u =
      let a : count (standing (relabel f t)) ≡ count (standing t) = standing_count (relabel f t) ∙ relabel_count f t ∙ sym (standing_count t) in
      let b : count (standing (relabel f u)) ≡ count (standing u) = standing_count (relabel f u) ∙ relabel_count f u ∙ sym (standing_count u) in
      cc

  rotates_as : (fs : List (Frame ℕ R)) (t : Tree ℕ R) → rotates (relabel_path f fs) (relabel f t) ≡ rotates fs t
  rotates_as [] t = refl
  rotates_as (frame s n x u ∷ fs) t = let a = heavier_as t u in let b = heavier_as u t in cc

module _ {K F : Type 0} (kd : Kind K F) where
  found_as : (f : ℕ → ℕ) (k : K) (p : Place ℕ (Region K)) → found_under kd k (relabel_place f p) ≡ relabel f (found_under kd k p)
  found_as f k p =
      ap (λ (t : Tree ℕ (Region K)). (descend (seek (regions kd) k) [] t).under) (relabel_plug f p.above p.under) ∙
      ap (λ (q : Place ℕ (Region K)). q.under) (descend_as f (seek (regions kd) k) [] (whole p))

  needed_as : (f : ℕ → ℕ) (c : Call K) (p : Place ℕ (Region K)) → free_needed kd c (relabel_place f p) ≡ free_needed kd c p
  needed_as f (Put low high rows) p = refl
  needed_as f (Drop k) p = ap (λ (b : Bool). cond b 96 0) (ap both_sides (found_as f k p) ∙ both_sides_as f (found_under kd k p))
  needed_as f (Split b m n) p = refl
  needed_as f Advance p = ap (λ (b : Bool). cond b 3 0) (rotates_as f p.above p.under)
  needed_as f (Open s k) p = refl
  needed_as f (Step s) p = refl
  needed_as f (Close s) p = refl
  needed_as f Counts p = refl

  abbrev pub scene : History K F → State (Cells K) → Place ℕ (Region K) → Scene K F
  scene h x p = record { past = h; state = x; place = p }

  module _ {N : ℕ} (ρ : Renaming N) (x y : State (Cells K)) (r : Renamed ρ x y) where
    pub same_length : length y.memory ≡ length x.memory
    same_length = r.as_many ∙ sym r.has_nodes

    pub fits_to : (h : History K F) (p : Place ℕ (Region K)) (c : Call K) (e : Refusal F) → Fits kd (scene h x p) c e → Fits kd (scene h y (relabel_place ρ.to p)) c e
    fits_to h p c e (size _ n) = size c (λ i. n (subst InRange same_length i))
    fits_to h p c e (no_session _ s d i) = no_session c s d i
    fits_to h p c e (has_lookup s k l i) = has_lookup s k l i
    fits_to h p c e (no_lookup _ s d i) = no_lookup c s d i
    fits_to h p c e (ill_formed _ a f d) = ill_formed c a f d
    fits_to h p c e (not_below low high rows i) = not_below low high rows i
    fits_to h p c e (under_way _ d i) = under_way c d i
    fits_to h p c e (at_rest i) = at_rest i
    fits_to h p c e (overlapping low high rows i) = overlapping low high rows i
    fits_to h p c e (no_region _ k d i) = no_region c k d i
    fits_to h p c e (same_as_low b m n w g i) = same_as_low b m n w g i
    fits_to h p c e (full _ d i) = full c d (let a = same_length in omega arith)
    fits_to h p c e (few_free _ i) = few_free c (let a = marks_same ρ x y r 0 in let b = needed_as ρ.to c p in omega arith)
