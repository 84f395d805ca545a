-- Every edit, from the tree that stands to the tree that stands after it.
use Rattle.std.proofs.Common.{◌≡◌, ℕ, ◌+◌, ◌≤◌, false, T, eqb, ◌⊎◌, List, [], ◌∷◌, ◌++◌, length, Some, sym, refl, ap, ◌∙◌, subst, inl, inr, append-nil, arith}
use Rattle.trees.specs.Regions.{Ranges, Laws, below, Region, RegionSet, gives, overlaps, set_put, set_drop, set_split, Parts}
use Rattle.trees.specs.Trees.{Turn, here, to_right, Tree, leaf, node, beside, inorder, weight, Balanced, root, seek, found}
use Rattle.trees.specs.Rotations.{Label, kept, Near}
use Rattle.trees.specs.Edits.{Frame, frame, Place, place, plug, whole, descend, standing, standing_path, settled, sprout, dropped, parted, Edit, Put, Drop, Split, Advance, advanced, edited, set_after, WereBalanced, Mending}
use Rattle.trees.specs.Paths.{inside, In, Distinct, KeepsPath, KeepsOrder, KeepsRegions, MadeAs, new_at}
use Rattle.trees.specs.Steps.{Accepted, InTurn, Stands, StepsWell, EveryStep}
use Rattle.trees.proofs.Risings.{All, all_mid, PartsWays, Rising, rising_part}
use Rattle.trees.proofs.Orders.{left_if, right_if, left_says, right_says, here_says, holds_high, upto_self, below_upto, chain, Before, ways, firm, firm_rises, firm_regions}
use Rattle.trees.proofs.Sets.{holder_true, gives_holder, begins_below, lower_region, keeps_set}
use Rattle.trees.proofs.Places.{count_order, befores, afters, plug_order, plug_rising, plug_all, descend_whole, descend_balanced, Ends, descend_ends, descend_found, settled_order, settled_balanced}
use Rattle.trees.proofs.Spells.{changed_order, put_local, replace_local, replace_here, put_under, finds}
use Rattle.trees.proofs.Loyal.{Loyal, loyal_same}
use Rattle.trees.proofs.Grown.{dropped_order, parted_order, dropped_balanced, parted_balanced, plug_loyal, settled_loyal, dropped_loyal, Follows, parted_loyal, put_loyal}
use Rattle.trees.proofs.Numbers.{standing_order, standing_weight, standing_balanced, standing_beside, standing_plug, standing_inside, new_free, made_inside, made_order, made_weight, made_balanced, made_plug, new_plug, keeps_path, keeps_regions, keeps_distinct}
use Rattle.trees.proofs.Ancestors.{has_all, Own, keeps_order}
use Rattle.trees.proofs.Heights.{height_low}

module _ {R : Type 0} where
  rest_whole : (p : Place ℕ R) → p.above ≡ [] → whole p ≡ p.under
  rest_whole p e = ap (λ (fs : List (Frame ℕ R)). plug fs p.under) e

  -- an edit at the link where a search ends
  module _ (to : R → Turn) (p : Place ℕ R) (rest : p.above ≡ []) where
    down_whole : whole p ≡ whole (descend to [] p.under)
    down_whole = rest_whole p rest ∙ sym (descend_whole to [] p.under)

    down_loyal :
        (turn : R → Turn) (u : Tree Label R) → Loyal turn (standing (descend to [] p.under).under) u →
        Loyal turn (standing (whole p)) (plug (standing_path (descend to [] p.under).above) u)
    down_loyal turn u y =
        let q = descend to [] p.under in
        subst (λ (t : Tree Label R). Loyal turn t (plug (standing_path q.above) u)) (sym (ap standing down_whole ∙ standing_plug q.above q.under))
        (plug_loyal turn (standing_path q.above) (standing q.under) u y)

    down_mending :
        (Free : ℕ → Type 0) (u : Tree Label R) (t : Tree ℕ R) → Balanced p.under → MadeAs Free u t →
        (Balanced (standing (descend to [] p.under).under) →
        Near 1 (weight (standing (descend to [] p.under).under)) (weight u) × Balanced u) →
        Mending (place (descend to [] p.under).above t)
    down_mending Free u t b m f =
        let q = descend to [] p.under in
        let d = descend_balanced to p.under b in
        let e = f (standing_balanced q.under d.0) in
        let w = standing_weight q.under in
        let v = made_weight Free u t m in
        let n = e.0 in
        record { weighed = weight q.under; changed = omega arith; below = made_balanced Free u t m e.1; pending = d.1 }

module _ {K R : Type 0} (g : Ranges K R) (laws : Laws g) where
  down_rising : (turn : R → Turn) (t : Tree ℕ R) → Rising (Before g laws) (inorder t) → Rising (Before g laws) (inorder (descend turn [] t).under)
  down_rising turn t h =
      let q = descend turn [] t in
      plug_rising (Before g laws) q.above q.under (subst (λ (u : Tree ℕ R). Rising (Before g laws) (inorder u)) (sym (descend_whole turn [] t)) h)

  -- THE TREE UNDER THE LINK, in order and on paths

  dropped_here :
      (k : K) (t : Tree ℕ R) → g.Formed k → Ends (seek g k) t → Rising (Before g laws) (inorder t) →
      inorder (dropped (standing t)) ≡ set_drop g k (inorder t)
  dropped_here k leaf p e h = refl
  dropped_here k (node n l x r) p e h =
      dropped_order (kept n) (standing l) x (standing r) ∙ cc (standing_order l, standing_order r)
      ∙ sym (replace_here g laws k (λ x. []) (inorder l) x (inorder r) p h e)

  parted_here :
      (b : K) (lower upper : R → R) (t : Tree ℕ R) → g.Formed b → Ends (seek g b) t → Rising (Before g laws) (inorder t) →
      inorder (parted lower upper (standing t)) ≡ set_split g b lower upper (inorder t)
  parted_here b lower upper leaf p e h = refl
  parted_here b lower upper (node n l x r) p e h =
      parted_order lower upper (kept n) (standing l) x (standing r) ∙ cc (standing_order l, standing_order r)
      ∙ sym (replace_here g laws b (λ x. lower x ∷ (upper x ∷ [])) (inorder l) x (inorder r) p h e)

  -- a search goes on at the lower part as at the whole
  lower_follows :
      (b : K) (lower upper : R → R) (x : R) → Parts g b lower upper → g.Formed b → Region g x → T (below g (g.low x) b) → T (below g b (g.high x)) →
      (k : K) → g.Formed k → Follows (seek g k) x (lower x)
  lower_follows b lower upper x parts f r starts ends k p =
      let low = lower_region g laws b lower upper parts f x r starts ends in
      record {
        left_too = λ e. left_if g laws k (lower x) p low.low_formed (rw (parts.lower_low x) (left_says g laws k x e));
        right_too = λ e.
            right_if g laws k (lower x) p low
            (rw (parts.lower_high x) (chain g laws b (g.high x) k f r.high_formed p (below_upto g laws b (g.high x) ends) (right_says g laws k x p r e)));
      }

  -- the searches that trees speak of: one for a key, and the one that always goes right
  record Fair (turn : R → Turn) : Type 0 where
    parting : PartsWays (Before g laws) turn
    follows :
        (b : K) (lower upper : R → R) (x : R) → Parts g b lower upper → g.Formed b → Region g x → T (below g (g.low x) b) → T (below g b (g.high x)) →
        Follows turn x (lower x)

  seek_fair : (k : K) → g.Formed k → Fair (seek g k)
  seek_fair k p = record { parting = ways g laws k p; follows = λ b lower upper x parts f r starts ends. lower_follows b lower upper x parts f r starts ends k p }

  right_fair : Fair (λ x. to_right)
  right_fair = record {
    parting = λ x y b. inl refl;
    follows = λ b lower upper x parts f r starts ends. record { left_too = λ e. e; right_too = λ e. e };
  }

  parted_here_loyal :
      (b : K) (lower upper : R → R) (t : Tree ℕ R) → Parts g b lower upper → g.Formed b → Ends (seek g b) t → All (Region g) (inorder t) →
      ((x : R) → root t ≡ Some x → T (below g (g.low x) b)) → Rising (Before g laws) (inorder (parted lower upper (standing t))) →
      (turn : R → Turn) → Fair turn → Loyal turn (standing t) (parted lower upper (standing t))
  parted_here_loyal b lower upper leaf parts f e a s h turn y = loyal_same turn leaf
  parted_here_loyal b lower upper (node n l x r) parts f e a s h turn y =
      let c = (all_mid (Region g) (inorder l) x (inorder r) a).1 in
      let u = holds_high g laws b x (here_says g laws b x e) in
      let m = subst (λ (xs : List R). Rising (Before g laws) xs) (parted_order lower upper (kept n) (standing l) x (standing r)) h in
      parted_loyal turn (Before g laws) y.parting lower upper (kept n) (standing l) x (standing r)
      (y.follows b lower upper x parts f c (s x refl) u) m

  -- EVERY EDIT

  -- in order
  edit_spells :
      (e : Edit K R) (p : Place ℕ R) → RegionSet g (inorder (whole p)) → InTurn g e p → Accepted g e (inorder (whole p)) →
      befores (edited g e p).above ++ (inorder (edited g e p).grown ++ afters (edited g e p).above) ≡ set_after g e (inorder (whole p))
  edit_spells (Put x) p s rest a =
      let w = ap inorder (rest_whole p rest) in
      let s' = subst (λ (xs : List R). RegionSet g xs) w s in
      let u = put_under g laws x p.under a.0 (subst (λ (xs : List R). overlaps g x xs ≡ false) w a.1) s' in
      changed_order (seek g (g.low x)) (set_put g x) (put_local g laws x) (Before g laws) (ways g laws (g.low x) a.0.low_formed) p.under (x ∷ [])
      (firm_rises g laws (inorder p.under) (firm g laws (inorder p.under) s'))
      (ap (λ (t : Tree ℕ R). set_put g x (inorder t)) (sym u)) ∙ ap (λ (xs : List R). set_put g x xs) (sym w)
  edit_spells (Drop k) p s rest a =
      let w = ap inorder (rest_whole p rest) in
      let q = descend (seek g k) [] p.under in
      let h = firm_rises g laws (inorder p.under) (firm g laws (inorder p.under) (subst (λ (xs : List R). RegionSet g xs) w s)) in
      changed_order (seek g k) (set_drop g k) (replace_local g laws k (λ x. [])) (Before g laws) (ways g laws k a) p.under
      (inorder (dropped (standing q.under))) h (dropped_here k q.under a (descend_ends (seek g k) [] p.under) (down_rising (seek g k) p.under h))
      ∙ ap (λ (xs : List R). set_drop g k xs) (sym w)
  edit_spells (Split b lower upper) p s rest a =
      let w = ap inorder (rest_whole p rest) in
      let q = descend (seek g b) [] p.under in
      let h = firm_rises g laws (inorder p.under) (firm g laws (inorder p.under) (subst (λ (xs : List R). RegionSet g xs) w s)) in
      changed_order (seek g b) (set_split g b lower upper) (replace_local g laws b (λ x. lower x ∷ (upper x ∷ []))) (Before g laws) (ways g laws b a.0) p.under
      (inorder (parted lower upper (standing q.under))) h
      (parted_here b lower upper q.under a.0 (descend_ends (seek g b) [] p.under) (down_rising (seek g b) p.under h))
      ∙ ap (λ (xs : List R). set_split g b lower upper xs) (sym w)
  edit_spells Advance p s rest a = advance_spells p.above p.under
    where
      advance_spells :
          (fs : List (Frame ℕ R)) (t : Tree ℕ R) →
          befores (advanced fs t).above ++ (inorder (advanced fs t).grown ++ afters (advanced fs t).above) ≡ inorder (plug fs t)
      advance_spells [] t = append-nil (inorder (standing t)) ∙ standing_order t
      advance_spells (frame s n x u ∷ fs) t =
          ap (λ (xs : List R). befores fs ++ (xs ++ afters fs))
          (settled_order s (kept n) x (standing u) (standing t) ∙ ap inorder (sym (standing_beside s n t x u)) ∙ standing_order (beside s n t x u))
          ∙ sym (plug_order fs (beside s n t x u))

  -- on paths: from the tree that stands to the tree that is made
  edit_loyal :
      (e : Edit K R) (p : Place ℕ R) → RegionSet g (inorder (whole p)) → InTurn g e p → Accepted g e (inorder (whole p)) →
      (turn : R → Turn) → Fair turn → Loyal turn (standing (whole p)) (plug (standing_path (edited g e p).above) (edited g e p).grown)
  edit_loyal (Put x) p s rest a turn y =
      let w = ap inorder (rest_whole p rest) in
      let u =
      put_under g laws x p.under a.0 (subst (λ (xs : List R). overlaps g x xs ≡ false) w a.1) (subst (λ (xs : List R). RegionSet g xs) w s) in
      down_loyal (seek g (g.low x)) p rest turn (sprout x)
      (put_loyal turn (Before g laws) y.parting x (standing (descend (seek g (g.low x)) [] p.under).under) (ap standing u))
  edit_loyal (Drop j) p s rest a turn y =
      let q = descend (seek g j) [] p.under in
      let h = firm_rises g laws (inorder (whole p)) (firm g laws (inorder (whole p)) s) in
      let r = down_rising (seek g j) p.under (subst (λ (t : Tree ℕ R). Rising (Before g laws) (inorder t)) (rest_whole p rest) h) in
      down_loyal (seek g j) p rest turn (dropped (standing q.under))
      (dropped_loyal turn (Before g laws) y.parting (standing q.under)
      (subst (λ (xs : List R). Rising (Before g laws) xs) (sym (standing_order q.under)) r))
  edit_loyal (Split b lower upper) p s rest a turn y =
      let q = descend (seek g b) [] p.under in
      let v = firm g laws (inorder (whole p)) s in
      let h = firm_rises g laws (inorder (whole p)) v in
      let regions =
      plug_all (Region g) q.above q.under
      (subst (λ (t : Tree ℕ R). All (Region g) (inorder t)) (down_whole (seek g b) p rest) (firm_regions g laws (inorder (whole p)) v)) in
      let after =
      subst (λ (xs : List R). RegionSet g xs) (sym (edit_spells (Split b lower upper) p s rest a)) (keeps_set g laws (Split b lower upper) (inorder (whole p)) s a) in
      let made = befores q.above ++ (inorder (parted lower upper (standing q.under)) ++ afters q.above) in
      let rising =
      rising_part (Before g laws) (befores q.above) (inorder (parted lower upper (standing q.under))) (afters q.above)
      (firm_rises g laws made (firm g laws made after)) in
      down_loyal (seek g b) p rest turn (parted lower upper (standing q.under))
      (parted_here_loyal b lower upper q.under a.1 a.0 (descend_ends (seek g b) [] p.under) regions
      (λ x e. starts x (found_given h x e)) rising turn y)
    where
      -- what stands under the link is what the set gives
      found_given : Rising (Before g laws) (inorder (whole p)) → (x : R) → root (descend (seek g b) [] p.under).under ≡ Some x → gives g (inorder (whole p)) b ≡ Some x
      found_given h x e =
          sym (finds g laws b (whole p) a.0 h) ∙ ap (found (seek g b)) (rest_whole p rest) ∙ descend_found (seek g b) [] p.under ∙ e

      starts : (x : R) → gives g (inorder (whole p)) b ≡ Some x → T (below g (g.low x) b)
      starts x e = begins_below g laws b x (holder_true g laws b x (gives_holder g laws b (inorder (whole p)) x e)) (a.2 x e)
  edit_loyal Advance p s rest a turn y = advance_loyal p.above p.under (firm_rises g laws (inorder (whole p)) (firm g laws (inorder (whole p)) s))
    where
      advance_loyal :
          (fs : List (Frame ℕ R)) (t : Tree ℕ R) → Rising (Before g laws) (inorder (plug fs t)) →
          Loyal turn (standing (plug fs t)) (plug (standing_path (advanced fs t).above) (advanced fs t).grown)
      advance_loyal [] t h = loyal_same turn (standing t)
      advance_loyal (frame s n x u ∷ fs) t h =
          let r = plug_rising (Before g laws) fs (beside s n t x u) h in
          let e = sym (standing_order (beside s n t x u)) ∙ ap inorder (standing_beside s n t x u) in
          subst (λ (v : Tree Label R). Loyal turn v (plug (standing_path fs) (settled (frame s (kept n) x (standing u)) (standing t))))
          (sym (standing_plug (frame s n x u ∷ fs) t))
          (plug_loyal turn (standing_path fs) (beside s (kept n) (standing t) x (standing u)) (settled (frame s (kept n) x (standing u)) (standing t))
          (settled_loyal turn (Before g laws) y.parting s (kept n) x (standing u) (standing t)
          (subst (λ (xs : List R). Rising (Before g laws) xs) e r)))

  -- balance
  edit_mending :
      (Free : ℕ → Type 0) (e : Edit K R) (p : Place ℕ R) (t : Tree ℕ R) → RegionSet g (inorder (whole p)) → InTurn g e p →
      Accepted g e (inorder (whole p)) → Mending p → MadeAs Free (edited g e p).grown t → Mending (place (edited g e p).above t)
  edit_mending Free (Put x) p t s rest a m made =
      let w = ap inorder (rest_whole p rest) in
      let u =
      put_under g laws x p.under a.0 (subst (λ (xs : List R). overlaps g x xs ≡ false) w a.1) (subst (λ (xs : List R). RegionSet g xs) w s) in
      let z : weight (standing (descend (seek g (g.low x)) [] p.under).under) ≡ 1 = rw u in
      down_mending (seek g (g.low x)) p rest Free (sprout x) t m.below made (λ b. (omega arith, (omega arith, tt, tt)))
  edit_mending Free (Drop k) p t s rest a m made =
      let q = descend (seek g k) [] p.under in
      down_mending (seek g k) p rest Free (dropped (standing q.under)) t m.below made (λ b. dropped_balanced (standing q.under) b)
  edit_mending Free (Split b lower upper) p t s rest a m made =
      let q = descend (seek g b) [] p.under in
      down_mending (seek g b) p rest Free (parted lower upper (standing q.under)) t m.below made (λ h. parted_balanced lower upper (standing q.under) h)
  edit_mending Free Advance p t s rest a m made = advance_mending p.above p.under m.weighed m.changed m.below m.pending made
    where
      advance_mending :
          (fs : List (Frame ℕ R)) (v : Tree ℕ R) (w : ℕ) → Near 1 w (weight v) → Balanced v → WereBalanced w fs → MadeAs Free (advanced fs v).grown t →
          Mending (place (advanced fs v).above t)
      advance_mending [] v w d b h made =
          let c = made_weight Free (standing v) t made in
          let e = standing_weight v in
          record { weighed = w; changed = omega arith; below = made_balanced Free (standing v) t made (standing_balanced v b); pending = tt }
      advance_mending (frame s n x u ∷ fs) v w d b h made =
          let r = settled (frame s (kept n) x (standing u)) (standing v) in
          let even = h.0 in
          let i = standing_weight u in
          let j = standing_weight v in
          let e = settled_balanced s w (kept n) x (standing u) (standing v) (omega arith) (standing_balanced u h.1) (omega arith) (standing_balanced v b) in
          let near = e.0 in
          let c = made_weight Free r t made in
          record { weighed = w + weight u; changed = omega arith; below = made_balanced Free r t made e.1; pending = h.2 }

  -- the search for its own low key ends at a region
  low_here : (x : R) → Region g x → seek g (g.low x) x ≡ here
  low_here x r = let u = upto_self g laws (g.low x) r.low_formed in let b = r.rises in grind arith

  -- THE ONE THEOREM. Free says which numbers may be taken.
  module _ (Free : ℕ → Type 0) (e : Edit K R) (p : Place ℕ R) (t : Tree ℕ R) (s : Stands g p) (turn-of : InTurn g e p)
      (accepted : Accepted g e (inorder (whole p))) (made : MadeAs Free (edited g e p).grown t)
      (free : (n : ℕ) → Free n → inside (eqb n) (whole p) ≡ 0) (once : (n : ℕ) → new_at n (edited g e p).grown t ≤ 1) where
    abbrev grown : Tree Label R
    grown = plug (standing_path (edited g e p).above) (edited g e p).grown

    whole_made : MadeAs Free grown (plug (edited g e p).above t)
    whole_made = made_plug Free (edited g e p).above (edited g e p).grown t made

    whole_once : (n : ℕ) → new_at n grown (plug (edited g e p).above t) ≤ 1
    whole_once n = rw (new_plug (edited g e p).above (edited g e p).grown t n) (once n)

    spelt : inorder (plug (edited g e p).above t) ≡ set_after g e (inorder (whole p))
    spelt =
        plug_order (edited g e p).above t
        ∙ ap (λ (xs : List R). befores (edited g e p).above ++ (xs ++ afters (edited g e p).above)) (made_order Free (edited g e p).grown t made)
        ∙ edit_spells e p s.set turn-of accepted

    set_stands : RegionSet g (inorder (plug (edited g e p).above t))
    set_stands = subst (λ (xs : List R). RegionSet g xs) (sym spelt) (keeps_set g laws e (inorder (whole p)) s.set accepted)

    stays_distinct : Distinct (plug (edited g e p).above t)
    stays_distinct =
        keeps_distinct Free (whole p) grown (plug (edited g e p).above t) free whole_made (λ x. to_right) s.distinct
        (edit_loyal e p s.set turn-of accepted (λ x. to_right) right_fair) whole_once

    stays_held : KeepsRegions (whole p) (plug (edited g e p).above t)
    stays_held =
        keeps_regions Free (whole p) grown (plug (edited g e p).above t) free whole_made (λ x. to_right)
        (edit_loyal e p s.set turn-of accepted (λ x. to_right) right_fair)

    stays_on_path : (k : K) → g.Formed k → KeepsPath (seek g k) (whole p) (plug (edited g e p).above t)
    stays_on_path k f =
        keeps_path Free (whole p) grown (plug (edited g e p).above t) free whole_made (seek g k) s.distinct
        (edit_loyal e p s.set turn-of accepted (seek g k) (seek_fair k f))

    stays_in_order : (k : K) → g.Formed k → KeepsOrder (seek g k) (whole p) (plug (edited g e p).above t)
    stays_in_order k f =
        let v = firm g laws (inorder (whole p)) s.set in
        keeps_order (Before g laws) (whole p) (plug (edited g e p).above t) (firm_rises g laws (inorder (whole p)) v)
        (firm_rises g laws (inorder (plug (edited g e p).above t)) (firm g laws (inorder (plug (edited g e p).above t)) set_stands))
        s.distinct stays_distinct stays_held (λ q x h. own x (has_all (Region g) q x (whole p) h (firm_regions g laws (inorder (whole p)) v)))
        (seek g k) (stays_on_path k f)
      where
        own : (x : R) → Region g x → Own (Before g laws) (whole p) (plug (edited g e p).above t) x
        own x r = record {
          search = seek g (g.low x);
          ways = ways g laws (g.low x) r.low_formed;
          mine = low_here x r;
          kept_path = stays_on_path (g.low x) r.low_formed;
        }

    -- a node of the tree after it was in the tree, or is one that was taken
    pub was_or_taken : (q : ℕ) → In q (plug (edited g e p).above t) → In q (whole p) ⊎ Free q
    was_or_taken q i = by_way (new_free Free q grown (plug (edited g e p).above t) whole_made)
      where
        by_way : (new_at q grown (plug (edited g e p).above t) ≡ 0) ⊎ Free q → In q (whole p) ⊎ Free q
        by_way (inl n) =
            inl (omega (
              arith,
              made_inside Free q grown (plug (edited g e p).above t) whole_made,
              (edit_loyal e p s.set turn-of accepted (λ x. to_right) right_fair).fewer q,
              standing_inside q (whole p),
            ))
        by_way (inr f) = inr f

    pub step : StepsWell g e p (place (edited g e p).above t)
    step = record {
      stands = record { set = set_stands; distinct = stays_distinct; mending = mending };
      spells = spelt;
      counts = count_order (plug (edited g e p).above t) ∙ ap length spelt;
      paths = stays_on_path;
      orders = stays_in_order;
      regions = stays_held;
      balanced = rest;
      low = λ r c. height_low (plug (edited g e p).above t) (rest r) c;
    }
      where
        mending : Mending (place (edited g e p).above t)
        mending = edit_mending Free e p t s.set turn-of accepted s.mending made

        rest : (edited g e p).above ≡ [] → Balanced (plug (edited g e p).above t)
        rest r = subst (λ (u : Tree ℕ R). Balanced u) (sym (rest_whole (place (edited g e p).above t) r)) mending.below

  pub every_step : EveryStep g
  every_step free e p t s turn-of accepted n = step (λ m. T (free m)) e p t s turn-of accepted n.numbered n.was_free n.once

  pub empty_stands : Stands g (place [] leaf)
  empty_stands = record {
    set = tt;
    distinct = λ q. omega arith;
    mending = record { weighed = 1; changed = omega arith; below = tt; pending = tt };
  }
