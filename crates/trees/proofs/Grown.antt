-- What takes the place of the tree under the link of an edit: what it lists, that it is balanced, and that it keeps paths.
use Rattle.std.proofs.Common.{◌≡◌, ℕ, suc, ◌+◌, ◌≤◌, ◌⊎◌, List, [], ◌∷◌, ◌++◌, length, sym, refl, ap, ◌∙◌, subst, inl, inr, append-nil, arith, length-append}
use Rattle.trees.specs.Trees.{Side, left, right, Turn, to_left, to_right, Tree, leaf, node, beside, inorder, count, weight, Even, Balanced}
use Rattle.trees.specs.Rotations.{Label, new, balance, Near}
use Rattle.trees.specs.Edits.{Frame, frame, plug, descend, settled, climb, sprout, least, rebuilt, joined, dropped, with_least, parted, WereBalanced}
use Rattle.trees.proofs.Risings.{PartsWays, Ahead, all_rest, Rising, rising_mid, rising_without}
use Rattle.trees.proofs.Rotations.{balance_order, balance_count, balance_balanced}
use Rattle.trees.proofs.Places.{count_order, alike_count, plug_alike, plug_rising, AllLeft, afters, left_edge, renewed, copied, edge_order, edge_all_left, edge_under, edge_whole, descend_balanced, renewed_order, copied_order, copied_balanced, settled_order}
use Rattle.trees.proofs.Loyal.{ins, off, Loyal, under_new, off_inside, loyal_same, loyal_then, loyal_beside, balance_loyal}

-- THE WALK ALONG THE LEFT EDGE, as a path of frames that is copied

module _ {R : Type 0} where
  -- the least region of the edge on top of l and of the edge without it
  abbrev over_least : Tree Label R → List (Frame Label R) → Tree Label R
  over_least l [] = l
  over_least l (frame s o x u ∷ fs) = balance new l x (copied fs u)

  over_edge :
      (t : Tree Label R) (fs : List (Frame Label R)) (o : Label) (l : Tree Label R) (x : R) (r : Tree Label R) →
      over_least t (descend (λ y. to_left) fs (node o l x r)).above ≡ balance new t (least l x) (copied fs (rebuilt (λ y u. u) l x r))
  over_edge t fs o leaf x r = refl
  over_edge t fs o (node p a y b) x r = over_edge t (frame left o x r ∷ fs) p a y b

  joined_edge : (o : Label) (a : Tree Label R) (x : R) (b r : Tree Label R) → joined (node o a x b) r ≡ over_least (node o a x b) (left_edge r)
  joined_edge o a x b leaf = refl
  joined_edge o a x b (node p c z d) = sym (over_edge (node o a x b) [] p c z d)

  added_edge :
      (z : R) (fs : List (Frame Label R)) (o : Label) (l : Tree Label R) (x : R) (r : Tree Label R) →
      copied (descend (λ y. to_left) fs (node o l x r)).above (sprout z) ≡ copied fs (rebuilt (λ y u. balance new (sprout z) y u) l x r)
  added_edge z fs o leaf x r = refl
  added_edge z fs o (node p a y b) x r = added_edge z (frame left o x r ∷ fs) p a y b

  with_least_edge : (z : R) (r : Tree Label R) → with_least z r ≡ copied (left_edge r) (sprout z)
  with_least_edge z leaf = refl
  with_least_edge z (node o l x r) = sym (added_edge z [] o l x r)

-- IN ORDER

module _ {R : Type 0} where
  -- the lowest node of a left edge holds the least region
  pub edge_least : (fs : List (Frame Label R)) (o : Label) (x : R) (u : Tree Label R) → AllLeft fs → inorder (plug fs (node o leaf x u)) ≡ x ∷ inorder (plug fs u)
  edge_least fs o x u a = edge_order fs (node o leaf x u) a ∙ ap (λ (ys : List R). x ∷ ys) (sym (edge_order fs u a))

  pub over_least_order : (l : Tree Label R) (fs : List (Frame Label R)) → AllLeft fs → inorder (over_least l fs) ≡ inorder l ++ inorder (plug fs leaf)
  over_least_order l [] a = sym (append-nil (inorder l))
  over_least_order l (frame left o x u ∷ fs) a =
      balance_order new l x (copied fs u)
      ∙ ap (λ (ys : List R). inorder l ++ (x ∷ ys)) (copied_order fs u)
      ∙ ap (λ (ys : List R). inorder l ++ ys) (sym (edge_least fs o x u a))
  over_least_order l (frame right o x u ∷ fs) a = absurd a

  joined_order : (l r : Tree Label R) → inorder (joined l r) ≡ inorder l ++ inorder r
  joined_order leaf r = refl
  joined_order (node o a x b) r =
      ap inorder (joined_edge o a x b r) ∙ over_least_order (node o a x b) (left_edge r) (edge_all_left r)
      ∙ ap (λ (u : Tree Label R). inorder (node o a x b) ++ inorder u) (edge_whole r)

  pub dropped_order : (o : Label) (l : Tree Label R) (x : R) (r : Tree Label R) → inorder (dropped (node o l x r)) ≡ inorder l ++ inorder r
  dropped_order o l x r = joined_order l r

  with_least_order : (z : R) (r : Tree Label R) → inorder (with_least z r) ≡ z ∷ inorder r
  with_least_order z r =
      ap inorder (with_least_edge z r) ∙ copied_order (left_edge r) (sprout z)
      ∙ edge_least (left_edge r) new z leaf (edge_all_left r)
      ∙ ap (λ (u : Tree Label R). z ∷ inorder u) (edge_whole r)

  pub parted_order :
      (lower upper : R → R) (o : Label) (l : Tree Label R) (x : R) (r : Tree Label R) →
      inorder (parted lower upper (node o l x r)) ≡ inorder l ++ (lower x ∷ (upper x ∷ inorder r))
  parted_order lower upper o l x r =
      balance_order new l (lower x) (with_least (upper x) r) ∙ ap (λ (ys : List R). inorder l ++ (lower x ∷ ys)) (with_least_order (upper x) r)

-- BALANCE. w is what the tree under the path weighs: one more or less than what it weighed before.

module _ {R : Type 0} where
  edge_balanced : (r : Tree Label R) → Balanced r → WereBalanced 1 (left_edge r)
  edge_balanced r b =
      subst (λ (u : Tree Label R). WereBalanced (weight u) (left_edge r)) (edge_under r) (descend_balanced (λ x. to_left) r b).1

  -- the least taken away: below it, one node fewer
  over_least_balanced :
      (l : Tree Label R) (fs : List (Frame Label R)) → AllLeft fs → WereBalanced 1 fs → Even (weight l) (weight (plug fs leaf)) → Balanced l →
      Balanced (over_least l fs)
  over_least_balanced l [] a w e b = b
  over_least_balanced l (frame right o x u ∷ fs) a w e b = absurd a
  over_least_balanced l (frame left o x u ∷ fs) a w e b =
      let c = alike_count (copied fs u) (plug fs u) (copied_order fs u) in
      let d = edge_count fs o x u a in
      balance_balanced new l x (copied fs u) (omega arith) b
      (copied_balanced fs (1 + weight u) u w.2 (omega arith) w.1)
    where
      edge_count : (fs : List (Frame Label R)) (o : Label) (x : R) (u : Tree Label R) → AllLeft fs → count (plug fs (node o leaf x u)) ≡ suc (count (plug fs u))
      edge_count fs o x u a =
          alike_count (plug fs (node o leaf x u)) (node new leaf x (plug fs u)) (edge_least fs o x u a) ∙ omega arith

  joined_balanced : (l r : Tree Label R) → Even (weight l) (weight r) → Balanced l → Balanced r → Balanced (joined l r)
  joined_balanced leaf r e bl br = br
  joined_balanced (node o a x b) r e bl br =
      subst (λ (u : Tree Label R). Balanced u) (sym (joined_edge o a x b r))
      (over_least_balanced (node o a x b) (left_edge r) (edge_all_left r) (edge_balanced r br) (rw (edge_whole r) e) bl)

  joined_count : (l r : Tree Label R) → count (joined l r) ≡ count l + count r
  joined_count l r =
      let e : length (inorder (joined l r)) ≡ length (inorder l) + length (inorder r) = ap length (joined_order l r) ∙ simp length-append in
      omega (arith, count_order (joined l r), count_order l, count_order r)

  pub dropped_balanced : (t : Tree Label R) → Balanced t → Near 1 (weight t) (weight (dropped t)) × Balanced (dropped t)
  dropped_balanced leaf b = (omega arith, tt)
  dropped_balanced (node o l x r) b = (omega (arith, joined_count l r), joined_balanced l r b.0 b.1 b.2)

  with_least_balanced : (z : R) (r : Tree Label R) → Balanced r → Balanced (with_least z r)
  with_least_balanced z r b =
      subst (λ (u : Tree Label R). Balanced u) (sym (with_least_edge z r))
      (copied_balanced (left_edge r) 1 (sprout z) (edge_balanced r b) (omega arith) (omega arith, tt, tt))

  pub parted_balanced :
      (lower upper : R → R) (t : Tree Label R) → Balanced t → Near 1 (weight t) (weight (parted lower upper t)) × Balanced (parted lower upper t)
  parted_balanced lower upper leaf b = (omega arith, tt)
  parted_balanced lower upper (node o l x r) b =
      let c = alike_count (with_least (upper x) r) (node new leaf (upper x) r) (with_least_order (upper x) r) in
      let e = b.0 in (
        omega (arith, balance_count new l (lower x) (with_least (upper x) r)),
        balance_balanced new l (lower x) (with_least (upper x) r) (omega arith) b.1 (with_least_balanced (upper x) r b.2),
      )

-- PATHS

module _ {R : Type 0} (turn : R → Turn) where
  pub plug_loyal : (fs : List (Frame Label R)) (t u : Tree Label R) → Loyal turn t u → Loyal turn (plug fs t) (plug fs u)
  plug_loyal [] t u y = y
  plug_loyal (frame s o x v ∷ fs) t u y =
      plug_loyal fs (beside s o t x v) (beside s o u x v) (loyal_beside turn s o o t u x v (inl refl) y)

  renewed_loyal : (fs : List (Frame Label R)) (t : Tree Label R) → Loyal turn (plug fs t) (plug (renewed fs) t)
  renewed_loyal [] t = loyal_same turn t
  renewed_loyal (frame s o x v ∷ fs) t =
      loyal_then turn (plug fs (beside s o t x v)) (plug fs (beside s new t x v)) (plug (renewed fs) (beside s new t x v))
      (plug_loyal fs (beside s o t x v) (beside s new t x v) (loyal_beside turn s o new t t x v (inr refl) (loyal_same turn t)))
      (renewed_loyal fs (beside s new t x v))

-- a search that goes left or right at x does so at y
pub record Follows {R : Type 0} (turn : R → Turn) (x y : R) : Type 0 where
  pub left_too : turn x ≡ to_left → turn y ≡ to_left
  pub right_too : turn x ≡ to_right → turn y ≡ to_right

module _ {R : Type 0} (turn : R → Turn) where
  module _ (Before : R → R → Type 0) (ways : PartsWays Before turn) where
    pub settled_loyal :
        (s : Side) (o : Label) (x : R) (v t : Tree Label R) → Rising Before (inorder (beside s o t x v)) →
        Loyal turn (beside s o t x v) (settled (frame s o x v) t)
    settled_loyal left o x v t h = balance_loyal turn Before ways o t x v h
    settled_loyal right o x v t h = balance_loyal turn Before ways o v x t h

    climb_loyal : (fs : List (Frame Label R)) (t : Tree Label R) → Rising Before (inorder (plug fs t)) → Loyal turn (plug fs t) (climb fs t)
    climb_loyal [] t h = loyal_same turn t
    climb_loyal (frame s o x v ∷ fs) t h =
        let e = plug_alike fs (settled (frame s o x v) t) (beside s o t x v) (settled_order s o x v t) in
        loyal_then turn (plug fs (beside s o t x v)) (plug fs (settled (frame s o x v) t)) (climb fs (settled (frame s o x v) t))
        (plug_loyal turn fs (beside s o t x v) (settled (frame s o x v) t) (settled_loyal s o x v t (plug_rising Before fs (beside s o t x v) h)))
        (climb_loyal fs (settled (frame s o x v) t) (subst (λ (ys : List R). Rising Before ys) (sym e) h))

    pub copied_loyal : (fs : List (Frame Label R)) (t : Tree Label R) → Rising Before (inorder (plug fs t)) → Loyal turn (plug fs t) (copied fs t)
    copied_loyal fs t h =
        loyal_then turn (plug fs t) (plug (renewed fs) t) (copied fs t) (renewed_loyal turn fs t)
        (climb_loyal (renewed fs) t (subst (λ (ys : List R). Rising Before ys) (sym (renewed_order fs t)) h))

    -- DROP. z is the least region of the right side: a search that does not go right at it goes left at all nodes of the edge above.

    abbrev LeftsAt : List (Frame Label R) → Type 0
    LeftsAt [] = Unit {0}
    LeftsAt (frame s o x u ∷ fs) = (turn x ≡ to_left) × LeftsAt fs

    edge_lefts : (z : R) (fs : List (Frame Label R)) → AllLeft fs → Ahead Before z (afters fs) → (turn z ≡ to_right → ⊥) → LeftsAt fs
    edge_lefts z [] a h n = tt
    edge_lefts z (frame left o x u ∷ fs) a h n = (
      elim (ways z x h.0) [ inl e ↦ absurd (n e) | inr e ↦ e ],
      edge_lefts z fs a (all_rest (Before z) (inorder u) (afters fs) h.1) n,
    )
    edge_lefts z (frame right o x u ∷ fs) a h n = absurd a

    -- then all that the edge keeps was off the path
    edge_off :
        (q : ℕ) (fs : List (Frame Label R)) (t u : Tree Label R) → AllLeft fs → LeftsAt fs → ins q u ≤ off turn q t →
        ins q (plug (renewed fs) u) ≤ off turn q (plug fs t)
    edge_off q [] t u a g h = h
    edge_off q (frame left o x v ∷ fs) t u a g h = edge_off q fs (node o t x v) (node new u x v) a g.1 (step g.0)
      where
        step : turn x ≡ to_left → ins q (node new u x v) ≤ off turn q (node o t x v)
        step e = rw e (omega arith)
    edge_off q (frame right o x v ∷ fs) t u a g h = absurd a

    drop_step :
        (q : ℕ) (o p : Label) (l : Tree Label R) (x z : R) (r u : Tree Label R) → (turn x ≡ to_right) ⊎ (turn z ≡ to_left) →
        ((turn z ≡ to_right → ⊥) → ins q u ≤ off turn q r) → (turn z ≡ to_right → off turn q u ≤ off turn q r) → ins q u ≤ ins q r →
        off turn q l ≤ ins q l → off turn q (node p l z u) ≤ off turn q (node o l x r)
    drop_step q o p l x z r u w a b c d = grind arith

    -- the right side's least region on top, the right side without it below
    least_loyal :
        (o p : Label) (l : Tree Label R) (x z : R) (u : Tree Label R) (fs : List (Frame Label R)) → AllLeft fs →
        Rising Before (x ∷ (z ∷ inorder (plug fs u))) → Loyal turn (node o l x (plug fs (node p leaf z u))) (node new l z (plug (renewed fs) u))
    least_loyal o p l x z u fs a h =
        let n = renewed_loyal turn fs u in
        let r = all_rest (Before z) (inorder u) (afters fs) (subst (λ (ys : List R). Ahead Before z ys) (edge_order fs u a) h.1.0) in
        record {
          fewer = λ q. omega (arith, n.fewer q, gone.fewer q);
          nearer = λ q.
              drop_step q o new l x z (plug fs (node p leaf z u)) (plug (renewed fs) u) (ways x z h.0.0)
              (λ m. edge_off q fs (node p leaf z u) u a (edge_lefts z fs a r m) (not_right q m))
              (λ e. omega (arith, n.nearer q, (plug_loyal turn fs (node p leaf z u) u (past turn e)).nearer q))
              (omega (arith, n.fewer q, gone.fewer q)) (off_inside turn q l);
          held = λ q y k.
              elim (under_new q y l z (plug (renewed fs) u) k) [ inl m ↦ inr (inl m) | inr m ↦ inr (inr (gone.held q y (n.held q y m))) ];
        }
      where
        past : (way : R → Turn) → way z ≡ to_right → Loyal way (node p leaf z u) u
        past way e = record { fewer = λ q. omega arith; nearer = λ q. rw e (omega arith); held = λ q y k. inr (inr k) }

        -- for the search that always goes right: what only says that the node of z goes
        gone : Loyal (λ y. to_right) (plug fs (node p leaf z u)) (plug fs u)
        gone = plug_loyal (λ y. to_right) fs (node p leaf z u) u (past (λ y. to_right) refl)

        not_right : (q : ℕ) → (turn z ≡ to_right → ⊥) → ins q u ≤ off turn q (node p leaf z u)
        not_right q m = grind arith

    -- under a new top
    new_top :
        (l : Tree Label R) (z : R) (r u : Tree Label R) → Rising Before (inorder l ++ (z ∷ inorder u)) → Loyal turn r u →
        Loyal turn (node new l z r) (balance new l z u)
    new_top l z r u h y =
        loyal_then turn (node new l z r) (node new l z u) (balance new l z u)
        (loyal_beside turn right new new r u z l (inl refl) y) (balance_loyal turn Before ways new l z u h)

    over_least_loyal :
        (o : Label) (l : Tree Label R) (x : R) (fs : List (Frame Label R)) → AllLeft fs →
        Rising Before (inorder l ++ (x ∷ inorder (plug fs leaf))) → Loyal turn (node o l x (plug fs leaf)) (over_least l fs)
    over_least_loyal o l x [] a h = record { fewer = λ q. omega arith; nearer = λ q. none_right q (off_inside turn q l); held = λ q y k. inr (inl k) }
      where
        none_right : (q : ℕ) → off turn q l ≤ ins q l → off turn q l ≤ off turn q (node o l x leaf)
        none_right q i = grind arith
    over_least_loyal o l x (frame right p z u ∷ fs) a h = absurd a
    over_least_loyal o l x (frame left p z u ∷ fs) a h =
        let e = edge_least fs p z u a in
        let k = subst (λ (ys : List R). Rising Before (inorder l ++ (x ∷ ys))) e h in
        let m = rising_mid Before (inorder l) x (z ∷ inorder (plug fs u)) k in
        let b = rising_without Before (inorder l) x (z ∷ inorder (plug fs u)) k in
        let c = subst (λ (ys : List R). Rising Before (inorder l ++ (z ∷ ys))) (sym (copied_order fs u)) b in
        let d = subst (λ (ys : List R). Rising Before ys) (sym (renewed_order fs u)) m.aft.1 in
        loyal_then turn (node o l x (plug fs (node p leaf z u))) (node new l z (plug (renewed fs) u)) (balance new l z (copied fs u))
        (least_loyal o p l x z u fs a (m.ahead, m.aft))
        (new_top l z (plug (renewed fs) u) (copied fs u) c (climb_loyal (renewed fs) u d))

    pub dropped_loyal : (t : Tree Label R) → Rising Before (inorder t) → Loyal turn t (dropped t)
    dropped_loyal leaf h = loyal_same turn leaf
    dropped_loyal (node o leaf x r) h = record { fewer = λ q. omega arith; nearer = λ q. none_left q (off_inside turn q r); held = λ q y k. inr (inr k) }
      where
        none_left : (q : ℕ) → off turn q r ≤ ins q r → off turn q r ≤ off turn q (node o leaf x r)
        none_left q i = grind arith
    dropped_loyal (node o (node p a y b) x r) h =
        let k = subst (λ (u : Tree Label R). Rising Before (inorder (node p a y b) ++ (x ∷ inorder u))) (sym (edge_whole r)) h in
        subst (λ (u : Tree Label R). Loyal turn (node o (node p a y b) x r) u) (sym (joined_edge p a y b r))
        (subst (λ (u : Tree Label R). Loyal turn (node o (node p a y b) x u) (over_least (node p a y b) (left_edge r))) (edge_whole r)
        (over_least_loyal o (node p a y b) x (left_edge r) (edge_all_left r) k))

    -- SPLIT

    split_top :
        (o : Label) (l : Tree Label R) (x y : R) (r : Tree Label R) → Follows turn x y → Loyal turn (node o l x r) (node new l y r)
    split_top o l x y r f = record {
      fewer = λ q. omega arith;
      nearer = λ q. nearer_top q (off_inside turn q l) (off_inside turn q r);
      held = λ q z k. inr (under_new q z l y r k);
    }
      where
        nearer_top : (q : ℕ) → off turn q l ≤ ins q l → off turn q r ≤ ins q r → off turn q (node new l y r) ≤ off turn q (node o l x r)
        nearer_top q i j = grind (arith, f.left_too, f.right_too)

    sprout_loyal : (z : R) → Loyal turn leaf (sprout z)
    sprout_loyal z = record { fewer = λ q. omega arith; nearer = λ q. grind arith; held = λ q x k. elim (under_new q x leaf z leaf k) [ inl m ↦ m | inr m ↦ m ] }

    with_least_loyal : (z : R) (r : Tree Label R) → Rising Before (z ∷ inorder r) → Loyal turn r (with_least z r)
    with_least_loyal z r h =
        let e = edge_least (left_edge r) new z leaf (edge_all_left r) ∙ ap (λ (u : Tree Label R). z ∷ inorder u) (edge_whole r) in
        let s = subst (λ (ys : List R). Rising Before ys) (sym e) h in
        let y =
        loyal_then turn (plug (left_edge r) leaf) (plug (left_edge r) (sprout z)) (copied (left_edge r) (sprout z))
        (plug_loyal turn (left_edge r) leaf (sprout z) (sprout_loyal z)) (copied_loyal (left_edge r) (sprout z) s) in
        subst (λ (u : Tree Label R). Loyal turn r u) (sym (with_least_edge z r))
        (subst (λ (u : Tree Label R). Loyal turn u (copied (left_edge r) (sprout z))) (edge_whole r) y)

    pub parted_loyal :
        (lower upper : R → R) (o : Label) (l : Tree Label R) (x : R) (r : Tree Label R) → Follows turn x (lower x) →
        Rising Before (inorder l ++ (lower x ∷ (upper x ∷ inorder r))) → Loyal turn (node o l x r) (parted lower upper (node o l x r))
    parted_loyal lower upper o l x r f h =
        let m = rising_mid Before (inorder l) (lower x) (upper x ∷ inorder r) h in
        let c = subst (λ (ys : List R). Rising Before (inorder l ++ (lower x ∷ ys))) (sym (with_least_order (upper x) r)) h in
        loyal_then turn (node o l x r) (node new l (lower x) r) (balance new l (lower x) (with_least (upper x) r))
        (split_top o l x (lower x) r f) (new_top l (lower x) r (with_least (upper x) r) c (with_least_loyal (upper x) r m.aft))

    -- PUT, at an empty link
    pub put_loyal : (x : R) (t : Tree Label R) → t ≡ leaf → Loyal turn t (sprout x)
    put_loyal x t e = rw e (sprout_loyal x)
