-- How a search turns at a node: for the region that holds a key, and for what a region overlaps.
use Rattle.std.proofs.Common.{◌≡◌, ℕ, Bool, true, false, cond, ◌||◌, List, [], ◌∷◌, Some, None, sym, refl, ◌∙◌, subst, arith}
use Rattle.store.specs.declared.node.Node.{Node}
use Rattle.store.specs.declared.node.Region.{Region}
use Rattle.store.specs.Cells.{Cell}
use Rattle.store.specs.Nodes.{region_of}
use Rattle.trees.specs.Regions.{Ranges, Laws, below, Region as WellMade, overlap, overlaps}
use Rattle.trees.specs.Trees.{Side, left, right, Turn, to_left, here, to_right, at_turn, Tree, leaf, node, inorder, seek, visited}
use Rattle.trees.specs.Edits.{Frame, frame, Place, place, descend}
use Rattle.trees.proofs.Risings.{All, all_mid}
use Rattle.trees.proofs.Orders.{not_below, below_chain, left_if, right_if, firm, firm_regions}
use Rattle.trees.proofs.Overlaps.{overlap_on_path}
use Rattle.drafts.specs.declared.link.Lean.TheVariants.{Right, Left}
use Rattle.search.specs.declared.search.Sought.TheVariants.{Holder, Overlap}
use Rattle.search.specs.Searches.{less_by, side_for}
use Rattle.runs.specs.Calls.{Kind, regions}
use Rattle.lifting.specs.Ways.{top_number, GoesTo, HolderDescends, ByOverlap, OverlapDescends}
use Rattle.lifting.proofs.Descending.{turn_by, goes_to}

module _ {K F : Type 0} (kd : Kind K F) (laws : Laws (regions kd)) where
  abbrev less : K → K → Bool
  less = less_by kd.fault kd.order

  less_is : (a b : K) → kd.fault a ≡ None → kd.fault b ≡ None → less a b ≡ below (regions kd) a b
  unfolding less_by
  less_is a b p q = rw (p, q) refl

  -- THE HOLDER OF A KEY

  holder_turns : (k : K) → kd.fault k ≡ None → (v : Node K) → WellMade (regions kd) (region_of v) → seek (regions kd) k (region_of v) ≡ turn_by (side_for less (Holder k) v)
  unfolding side_for
  holder_turns k p v w =
      rw (less_is k v.low p w.low_formed, less_is k v.high p w.high_formed)
      (by_tests (below (regions kd) k v.low) (below (regions kd) k v.high) refl refl)
    where
      by_tests :
          (b c : Bool) → below (regions kd) k v.low ≡ b → below (regions kd) k v.high ≡ c →
          seek (regions kd) k (region_of v) ≡ turn_by (cond b (Some Left) (cond c None (Some Right)))
      by_tests true c e f = left_if (regions kd) laws k (region_of v) p w.low_formed (rw e tt)
      by_tests false true e f = let h = not_below (regions kd) laws k v.low p w.low_formed e in grind (arith, h, f)
      by_tests false false e f = right_if (regions kd) laws k (region_of v) p w (not_below (regions kd) laws k v.high p w.high_formed f)

  pub holder_descends : HolderDescends kd 27
  holder_descends cs pending root t k s set low formed =
      goes_to less (Holder k) cs pending (seek (regions kd) k) (WellMade (regions kd)) (holder_turns k formed) root t s
      (firm_regions (regions kd) laws (inorder t) (firm (regions kd) laws (inorder t) set)) low

  -- WHAT A REGION OVERLAPS

  module _ (x : Region K) (wx : WellMade (regions kd) x) where
    abbrev g : Ranges K (Region K)
    g = regions kd

    abbrev overlap_turn : Region K → Turn
    overlap_turn y = turn_by (cond (below g y.low x.high) (cond (below g x.low y.high) None (Some Right)) (Some Left))

    overlap_turns : (v : Node K) → WellMade g (region_of v) → overlap_turn (region_of v) ≡ turn_by (side_for less (Overlap x.low x.high) v)
    unfolding side_for
    overlap_turns v w = rw (less_is v.low x.high w.low_formed wx.high_formed, less_is x.low v.high wx.low_formed w.high_formed)

    -- it ends where the region overlaps, and else turns as the search for the low key does
    ends_there : (y : Region K) → overlap g x y ≡ true → overlap_turn y ≡ here
    ends_there y e = grind (arith, e)

    turns_too : (y : Region K) → WellMade g y → overlap g x y ≡ false → overlap_turn y ≡ seek g x.low y
    turns_too y w e = by_tests (below g y.low x.high) (below g x.low y.high) refl refl e
      where
        by_tests :
            (b c : Bool) → below g y.low x.high ≡ b → below g x.low y.high ≡ c → overlap g x y ≡ false →
            turn_by (cond b (cond c None (Some Right)) (Some Left)) ≡ seek g x.low y
        by_tests true true e f h = absurd (grind (arith, e, f, h))
        by_tests true false e f h = sym (right_if g laws x.low y wx.low_formed w (not_below g laws x.low y.high wx.low_formed w.high_formed f))
        by_tests false c e f h =
            sym (left_if g laws x.low y wx.low_formed w.low_formed
            (below_chain g laws x.low x.high y.low wx.low_formed wx.high_formed w.low_formed wx.rises
            (not_below g laws y.low x.high w.low_formed wx.high_formed e)))

    not_here : (y : Region K) → overlap g x y ≡ false → overlap_turn y ≡ here → ⊥
    not_here y e h = grind (arith, e, h)

    abbrev IsNode : Tree ℕ (Region K) → Type 0
    IsNode leaf = ⊥
    IsNode (node n l y r) = Unit {0}

    -- where the search for the low key goes down to p, and that for what overlaps to q
    abbrev Told : Bool → Place ℕ (Region K) → Place ℕ (Region K) → Type 0
    Told true p q = IsNode q.under
    Told false p q = (p ≡ q) × (p.under ≡ leaf)

    told :
        (fs : List (Frame ℕ (Region K))) (t : Tree ℕ (Region K)) → All (WellMade g) (inorder t) →
        Told (overlaps g x (visited (seek g x.low) t)) (descend (seek g x.low) fs t) (descend overlap_turn fs t)
    told fs leaf a = (refl, refl)
    told fs (node n l y r) a =
        let m = all_mid (WellMade g) (inorder l) y (inorder r) a in
        by_test (overlap g x y) refl m.1 (told (frame left n y r ∷ fs) l m.0) (told (frame right n y l ∷ fs) r m.2)
      where
        sk : Region K → Turn
        sk = seek g x.low

        There : Bool → Turn → Turn → Type 0
        There b d e =
            Told (b || overlaps g x (at_turn d (visited sk l) [] (visited sk r)))
            (at_turn d (descend sk (frame left n y r ∷ fs) l) (place fs (node n l y r)) (descend sk (frame right n y l ∷ fs) r))
            (at_turn e (descend overlap_turn (frame left n y r ∷ fs) l) (place fs (node n l y r)) (descend overlap_turn (frame right n y l ∷ fs) r))

        On : Side → Type 0
        On left = Told (overlaps g x (visited sk l)) (descend sk (frame left n y r ∷ fs) l) (descend overlap_turn (frame left n y r ∷ fs) l)
        On right = Told (overlaps g x (visited sk r)) (descend sk (frame right n y l ∷ fs) r) (descend overlap_turn (frame right n y l ∷ fs) r)

        by_turn : (d : Turn) → (d ≡ here → ⊥) → On left → On right → There false d d
        by_turn to_left never a b = a
        by_turn here never a b = absurd (never refl)
        by_turn to_right never a b = b

        by_test : (b : Bool) → overlap g x y ≡ b → WellMade g y → On left → On right → There b (sk y) (overlap_turn y)
        by_test true e w a b = subst (λ d. There true (sk y) d) (sym (ends_there y e)) tt
        by_test false e w a b =
            let f = turns_too y w e in
            subst (λ d. There false (sk y) d) (sym f) (by_turn (sk y) (λ h. not_here y e (f ∙ h)) a b)

    has_number : (u : Tree ℕ (Region K)) → IsNode u → (n : ℕ) × (top_number u ≡ Some n)
    has_number leaf h = absurd h
    has_number (node n l y r) h = (n, refl)

    by_told :
        (cs : List (Cell K)) (pending : List ℕ) (root : ℕ) (t : Tree ℕ (Region K)) (b : Bool) →
        GoesTo less (Overlap x.low x.high) cs pending root (descend overlap_turn [] t) →
        Told b (descend (seek g x.low) [] t) (descend overlap_turn [] t) → ByOverlap kd cs pending root t x b
    by_told cs pending root t true w h =
        let n = has_number (descend overlap_turn [] t).under h in
        record { way = w.way; is = w.is; met = n.0; ends = w.ends ∙ n.1 }
    by_told cs pending root t false w h = (h.1, subst (λ p. GoesTo less (Overlap x.low x.high) cs pending root p) (sym h.0) w)

  pub overlap_descends : OverlapDescends kd 27
  overlap_descends cs pending root t x s set low wx =
      let a = firm_regions (regions kd) laws (inorder t) (firm (regions kd) laws (inorder t) set) in
      let w = goes_to less (Overlap x.low x.high) cs pending (overlap_turn x wx) (WellMade (regions kd)) (overlap_turns x wx) root t s a low in
      subst (ByOverlap kd cs pending root t x) (sym (overlap_on_path (regions kd) laws t x set wx)) (by_told x wx cs pending root t _ w (told x wx [] t a))
