-- Nodes on a path that stay in the tree keep their order. The search for a key that a node's region holds ends at the node, and
-- every search that visits the node comes there the same way: so what is above it on any path is on the path of its own low key.
use Rattle.std.proofs.Common.{◌≡◌, ℕ, zero, suc, ◌+◌, ◌≤◌, Bool, true, false, cond, eqb, List, [], ◌∷◌, ◌++◌, sym, refl, ap, ◌∙◌, subst, inl, inr, append_assoc, arith, eq-eqb, eqb-true}
use Rattle.trees.specs.Trees.{Side, left, right, Turn, here, towards, at_turn, Tree, leaf, node, beside, inorder, path}
use Rattle.trees.specs.Paths.{times, inside, On, In, Distinct, beyond, Has, KeepsPath, KeepsOrder, KeepsRegions}
use Rattle.trees.proofs.Risings.{All, all_mid, PartsWays, Rising, rising_mid}
use Rattle.trees.proofs.Numbers.{has_inside}

-- NUMBERS IN LISTS

pub times_append : (q : ℕ) (ns ms : List ℕ) → times (eqb q) (ns ++ ms) ≡ times (eqb q) ns + times (eqb q) ms
times_append q [] ms = omega arith
times_append q (n ∷ ns) ms = omega (arith, times_append q ns ms)

-- what comes after q is beyond it
pub after_beyond : (q n : ℕ) (ns ms : List ℕ) → On q ns → On n ms → On n (beyond q (ns ++ ms))
after_beyond q n [] ms h k = absurd (omega arith)
after_beyond q n (m ∷ ns) ms h k = by_test (eqb q m) h (after_beyond q n ns ms)
  where
    by_test :
        (b : Bool) → 1 ≤ cond b 1 0 + times (eqb q) ns → (On q ns → On n ms → On n (beyond q (ns ++ ms))) →
        On n (cond b (ns ++ ms) (beyond q (ns ++ ms)))
    by_test true h ih = omega (arith, times_append n ns ms)
    by_test false h ih = ih (omega arith) k

beyond_fewer : (q n : ℕ) (ns : List ℕ) → times (eqb n) (beyond q ns) ≤ times (eqb n) ns
beyond_fewer q n [] = omega arith
beyond_fewer q n (m ∷ ns) = by_test (eqb q m) (beyond_fewer q n ns)
  where
    by_test :
        (b : Bool) → times (eqb n) (beyond q ns) ≤ times (eqb n) ns →
        times (eqb n) (cond b ns (beyond q ns)) ≤ cond (eqb n m) 1 0 + times (eqb n) ns
    by_test true h = omega arith
    by_test false h = omega arith

-- of two that stand once, the one that is beyond q has q before it
pub beyond_before : (q n : ℕ) (ns ms : List ℕ) → times (eqb n) (ns ++ (n ∷ ms)) ≤ 1 → On n (beyond q (ns ++ (n ∷ ms))) → On q ns
beyond_before q n [] ms d h = absurd (by_test (eqb q n) (rw (eq-eqb n n refl) at d) h (beyond_fewer q n ms))
  where
    by_test : (b : Bool) → 1 + times (eqb n) ms ≤ 1 → On n (cond b ms (beyond q ms)) → times (eqb n) (beyond q ms) ≤ times (eqb n) ms → ⊥
    by_test true d h k = omega arith
    by_test false d h k = omega arith
beyond_before q n (m ∷ ns) ms d h = by_test (eqb q m) (beyond_before q n ns ms) (omega arith) h
  where
    by_test :
        (b : Bool) → (times (eqb n) (ns ++ (n ∷ ms)) ≤ 1 → On n (beyond q (ns ++ (n ∷ ms))) → On q ns) → times (eqb n) (ns ++ (n ∷ ms)) ≤ 1 →
        On n (cond b (ns ++ (n ∷ ms)) (beyond q (ns ++ (n ∷ ms)))) → 1 ≤ cond b 1 0 + times (eqb q) ns
    by_test true ih d h = omega arith
    by_test false ih d h = omega (arith, ih d h)

-- THE WAY TO A NODE

module _ {R : Type 0} where
  pub on_inside : (turn : R → Turn) (q : ℕ) (t : Tree ℕ R) → times (eqb q) (path turn t) ≤ inside (eqb q) t
  on_inside turn q leaf = omega arith
  on_inside turn q (node n l x r) = grind (arith, on_inside turn q l, on_inside turn q r)

  path_beside :
      (turn : R → Turn) (s : Side) (n : ℕ) (t : Tree ℕ R) (y : R) (u : Tree ℕ R) → turn y ≡ towards s → path turn (beside s n t y u) ≡ n ∷ path turn t
  path_beside turn left n t y u e = rw e
  path_beside turn right n t y u e = rw e

  -- what holds of all regions of a tree holds of a node's
  pub has_all : (P : R → Type 0) (q : ℕ) (x : R) (t : Tree ℕ R) → Has q x t → All P (inorder t) → P x
  has_all P q x leaf h a = absurd h
  has_all P q x (node n l y r) (inl e) a = subst P e.1 (all_mid P (inorder l) y (inorder r) a).1
  has_all P q x (node n l y r) (inr (inl h)) a = has_all P q x l h (all_mid P (inorder l) y (inorder r) a).0
  has_all P q x (node n l y r) (inr (inr h)) a = has_all P q x r h (all_mid P (inorder l) y (inorder r) a).2

  module _ (Before : R → R → Type 0) (q : ℕ) (x : R) where
    -- `own` is a search for a key that x holds: it goes to the side where the node is
    module _ (own : R → Turn) (ways : PartsWays Before own) (mine : own x ≡ here) where
      goes_there :
          (s : Side) (n : ℕ) (t : Tree ℕ R) (y : R) (u : Tree ℕ R) → Rising Before (inorder (beside s n t y u)) → Has q x t →
          (own y ≡ towards s) × Rising Before (inorder t)
      goes_there left n t y u r h =
          let m = rising_mid Before (inorder t) y (inorder u) r in
          let b = has_all (λ z. Before z y) q x t h m.behind in
          (elim (ways x y b) [ inl e ↦ (let z : ◌≡◌ {A = ℕ} 0 1 = cc in absurd (omega arith)) | inr e ↦ e ], m.fore)
      goes_there right n t y u r h =
          let m = rising_mid Before (inorder u) y (inorder t) r in
          let b = has_all (Before y) q x t h m.ahead in
          (elim (ways y x b) [ inl e ↦ e | inr e ↦ (let z : ◌≡◌ {A = ℕ} 0 1 = cc in absurd (omega arith)) ], m.aft)

      own_here : (y : R) → y ≡ x → own y ≡ here
      own_here y e = rw e mine

      -- it ends at the node
      pub ends_there : (t : Tree ℕ R) → Rising Before (inorder t) → Has q x t → (pre : List ℕ) × (path own t ≡ pre ++ (q ∷ []))
      ends_there leaf r h = absurd h
      ends_there (node n a y b) r (inl e) = ([], rw (own_here y e.1) (ap (λ (p : ℕ). p ∷ []) e.0))
      ends_there (node n a y b) r (inr (inl h)) =
          let w = goes_there left n a y b r h in
          let g = ends_there a w.1 h in
          (n ∷ g.0, path_beside own left n a y b w.0 ∙ ap (λ (ps : List ℕ). n ∷ ps) g.1)
      ends_there (node n a y b) r (inr (inr h)) =
          let w = goes_there right n b y a r h in
          let g = ends_there b w.1 h in
          (n ∷ g.0, path_beside own right n b y a w.0 ∙ ap (λ (ps : List ℕ). n ∷ ps) g.1)

      -- a search that visits a node of one side goes to that side
      visits : (turn : R → Turn) (s : Side) (n : ℕ) (t : Tree ℕ R) (y : R) (u : Tree ℕ R) → inside (eqb q) (beside s n t y u) ≤ 1 → In q t →
          On q (path turn (beside s n t y u)) → (turn y ≡ towards s) × On q (path turn t)
      visits turn left n t y u d i on = let c = on_inside turn q u in (grind arith, grind arith)
      visits turn right n t y u d i on = let c = on_inside turn q u in (grind arith, grind arith)

      -- every search that visits the node comes there the same way
      abbrev Passes : (R → Turn) → Tree ℕ R → Type 0
      Passes turn t = (post : List ℕ) × (path turn t ≡ path own t ++ post)

      same_side :
          (turn : R → Turn) (s : Side) (n : ℕ) (t : Tree ℕ R) (y : R) (u : Tree ℕ R) → own y ≡ towards s → turn y ≡ towards s →
          Passes turn t → Passes turn (beside s n t y u)
      same_side turn s n t y u e f p = (
        p.0,
        path_beside turn s n t y u f ∙ ap (λ (ps : List ℕ). n ∷ ps) p.1
            ∙ ap (λ (ps : List ℕ). ps ++ p.0) (sym (path_beside own s n t y u e)),
      )

      pub same_way :
          (turn : R → Turn) (t : Tree ℕ R) → Rising Before (inorder t) → inside (eqb q) t ≤ 1 → Has q x t → On q (path turn t) → Passes turn t
      same_way turn leaf r d h on = absurd h
      same_way turn (node n a y b) r d (inl e) on = (at_turn (turn y) (path turn a) [] (path turn b), rw (own_here y e.1))
      same_way turn (node n a y b) r d (inr (inl h)) on =
          let w = goes_there left n a y b r h in
          let i = has_inside q x a h in
          let v = visits turn left n a y b d i on in
          same_side turn left n a y b w.0 v.0 (same_way turn a w.1 (omega arith) h v.1)
      same_way turn (node n a y b) r d (inr (inr h)) on =
          let w = goes_there right n b y a r h in
          let i = has_inside q x b h in
          let v = visits turn right n b y a d i on in
          same_side turn right n b y a w.0 v.0 (same_way turn b w.1 (omega arith) h v.1)

-- THE ORDER OF NODES ON A PATH

module _ {R : Type 0} where
  pub in_has : (q : ℕ) (t : Tree ℕ R) → In q t → (x : R) × Has q x t
  in_has q leaf i = absurd (omega arith)
  in_has q (node n l y r) i = by_test (eqb q n) refl i (in_has q l) (in_has q r)
    where
      by_test :
          (b : Bool) → eqb q n ≡ b → 1 ≤ cond b 1 0 + (inside (eqb q) l + inside (eqb q) r) → (In q l → (x : R) × Has q x l) →
          (In q r → (x : R) × Has q x r) → (x : R) × Has q x (node n l y r)
      by_test true e i a b = (y, inl (sym (eqb-true q n e), refl))
      by_test false e i a b = by_side (inside (eqb q) l) refl
        where
          by_side : (m : ℕ) → inside (eqb q) l ≡ m → (x : R) × Has q x (node n l y r)
          by_side zero e = let h = b (omega arith) in (h.0, inr (inr h.1))
          by_side (suc m) e = let h = a (omega arith) in (h.0, inr (inl h.1))

module _ {R : Type 0} (Before : R → R → Type 0) (t t' : Tree ℕ R) where
  -- a search for a key of the region x, whose path is kept
  pub record Own (x : R) : Type 0 where
    pub search : R → Turn
    pub ways : PartsWays Before search
    pub mine : search x ≡ here
    pub kept_path : KeepsPath search t t'

  module _ (rises : Rising Before (inorder t)) (rises' : Rising Before (inorder t')) (once : Distinct t) (once' : Distinct t')
      (regions : KeepsRegions t t') (own : (q : ℕ) (x : R) → Has q x t → Own x) where
    way_there :
        (x : R) (o : Own x) (u : Tree ℕ R) (turn : R → Turn) (n : ℕ) → Rising Before (inorder u) → Distinct u → Has n x u → On n (path turn u) →
        (pre : List ℕ) × (post : List ℕ) × (path o.search u ≡ pre ++ (n ∷ [])) × (path turn u ≡ pre ++ (n ∷ post))
    way_there x o u turn n r d h on =
        let e = ends_there Before n x o.search o.ways o.mine u r h in
        let f = same_way Before n x o.search o.ways o.mine turn u r (d n) h on in
        (e.0, f.0, e.1, f.1 ∙ ap (λ (ps : List ℕ). ps ++ f.0) e.1 ∙ simp append_assoc)

    pub keeps_order : (turn : R → Turn) → KeepsPath turn t t' → KeepsOrder turn t t'
    keeps_order turn keeps q n h iq in' =
        let on : On n (path turn t) = omega (arith, beyond_fewer q n (path turn t)) in
        let it : In n t = omega (arith, on_inside turn n t) in
        let x = in_has n t' in' in
        let hx = regions n x.0 it x.1 in
        let o = own n x.0 hx in
        let on' = keeps n on in' in
        let w = way_there x.0 o t turn n rises once hx on in
        let w' = way_there x.0 o t' turn n rises' once' x.1 on' in
        finish o.search w.0 w.1 w'.0 w'.1 w.2 w.3 w'.2 w'.3 (o.kept_path q) h
      where
        finish :
            (search : R → Turn) (pre post pre' post' : List ℕ) → path search t ≡ pre ++ (n ∷ []) → path turn t ≡ pre ++ (n ∷ post) →
            path search t' ≡ pre' ++ (n ∷ []) → path turn t' ≡ pre' ++ (n ∷ post') → (On q (path search t) → In q t' → On q (path search t')) →
            On n (beyond q (path turn t)) → On n (beyond q (path turn t'))
        finish search pre post pre' post' a b c d k h =
            let m : times (eqb n) (path turn t) ≤ 1 = omega (arith, on_inside turn n t, once n) in
            let m' : times (eqb n) (pre ++ (n ∷ post)) ≤ 1 = subst (λ (ps : List ℕ). times (eqb n) ps ≤ 1) b m in
            let p = beyond_before q n pre post m' (subst (λ (ps : List ℕ). On n (beyond q ps)) b h) in
            let s : On q (path search t) = subst (λ (ps : List ℕ). On q ps) (sym a) (omega (arith, times_append q pre (n ∷ []))) in
            let s' : On q (pre' ++ (n ∷ [])) = subst (λ (ps : List ℕ). On q ps) c (k s iq) in
            let self : On n (n ∷ post') = rw (eq-eqb n n refl) (omega arith) in
            subst (λ (ps : List ℕ). On n (beyond q ps)) (sym d)
            (after_beyond q n pre' (n ∷ post') (by_test (eqb q n) refl p m' (times_append q pre' (n ∷ [])) s') self)
          where
            by_test :
                (b : Bool) → eqb q n ≡ b → On q pre → times (eqb n) (pre ++ (n ∷ post)) ≤ 1 →
                times (eqb q) (pre' ++ (n ∷ [])) ≡ times (eqb q) pre' + times (eqb q) (n ∷ []) → On q (pre' ++ (n ∷ [])) → On q pre'
            by_test true e p m f s =
                let r : On n pre = subst (λ (j : ℕ). On j pre) (eqb-true q n e) p in
                let i : On n (n ∷ post) = rw (eq-eqb n n refl) (omega arith) in
                absurd (omega (arith, times_append n pre (n ∷ post)))
            by_test false e p m f s = let z : times (eqb q) (n ∷ []) ≡ 0 = rw e in omega arith
