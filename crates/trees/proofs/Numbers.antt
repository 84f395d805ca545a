-- From the tree that an edit makes to the tree of numbered nodes that stands after it, new nodes at numbers that were free.
use Rattle.std.proofs.Common.{◌≡◌, ℕ, suc, ◌+◌, ◌≤◌, Bool, true, false, cond, eqb, ◌⊎◌, List, [], ◌∷◌, sym, refl, ap, ◌∙◌, subst, inl, inr, arith, eq-eqb, eqb-true}
use Rattle.trees.specs.Trees.{Side, left, right, Turn, to_left, here, to_right, at_turn, Tree, leaf, node, beside, inorder, weight, Balanced, path}
use Rattle.trees.specs.Rotations.{Label, kept, new}
use Rattle.trees.specs.Edits.{Frame, frame, plug, standing, standing_path}
use Rattle.trees.specs.Paths.{times, inside, On, In, Distinct, Has, KeepsPath, KeepsRegions, Numbered, MadeAs, is_new_at, new_at}
use Rattle.trees.proofs.Places.{alike_count}
use Rattle.trees.proofs.Loyal.{is_kept, ins, off, Loyal, on_off}

-- THE TREE THAT STANDS, each node kept

module _ {R : Type 0} where
  pub standing_order : (t : Tree ℕ R) → inorder (standing t) ≡ inorder t
  standing_order leaf = refl
  standing_order (node n l x r) = cc (standing_order l, standing_order r)

  pub standing_weight : (t : Tree ℕ R) → weight (standing t) ≡ weight t
  standing_weight t = ap suc (alike_count (standing t) t (standing_order t))

  pub standing_balanced : (t : Tree ℕ R) → Balanced t → Balanced (standing t)
  standing_balanced leaf b = tt
  standing_balanced (node n l x r) b =
      (omega (arith, standing_weight l, standing_weight r, b.0), standing_balanced l b.1, standing_balanced r b.2)

  pub standing_beside : (s : Side) (n : ℕ) (t : Tree ℕ R) (x : R) (u : Tree ℕ R) → standing (beside s n t x u) ≡ beside s (kept n) (standing t) x (standing u)
  standing_beside left n t x u = refl
  standing_beside right n t x u = refl

  pub standing_plug : (fs : List (Frame ℕ R)) (t : Tree ℕ R) → standing (plug fs t) ≡ plug (standing_path fs) (standing t)
  standing_plug [] t = refl
  standing_plug (frame s n x u ∷ fs) t =
      standing_plug fs (beside s n t x u) ∙ ap (λ (v : Tree Label R). plug (standing_path fs) v) (standing_beside s n t x u)

  pub standing_inside : (q : ℕ) (t : Tree ℕ R) → ins q (standing t) ≡ inside (eqb q) t
  standing_inside q leaf = refl
  standing_inside q (node n l x r) = omega (arith, standing_inside q l, standing_inside q r)

  pub standing_times : (turn : R → Turn) (q : ℕ) (t : Tree ℕ R) → times (is_kept q) (path turn (standing t)) ≡ times (eqb q) (path turn t)
  standing_times turn q leaf = refl
  standing_times turn q (node n l x r) = by_turn (turn x) (standing_times turn q l) (standing_times turn q r)
    where
      by_turn :
          (v : Turn) → times (is_kept q) (path turn (standing l)) ≡ times (eqb q) (path turn l) →
          times (is_kept q) (path turn (standing r)) ≡ times (eqb q) (path turn r) →
          times (is_kept q) (kept n ∷ at_turn v (path turn (standing l)) [] (path turn (standing r)))
          ≡ times (eqb q) (n ∷ at_turn v (path turn l) [] (path turn r))
      by_turn to_left a b = omega arith
      by_turn here a b = refl
      by_turn to_right a b = omega arith

  pub standing_has : (q : ℕ) (x : R) (t : Tree ℕ R) → Has (kept q) x (standing t) → Has q x t
  standing_has q x leaf h = h
  standing_has q x (node n l y r) (inl h) = inl (cc h.0, h.1)
  standing_has q x (node n l y r) (inr (inl h)) = inr (inl (standing_has q x l h))
  standing_has q x (node n l y r) (inr (inr h)) = inr (inr (standing_has q x r h))

  pub has_inside : (q : ℕ) (x : R) (t : Tree ℕ R) → Has q x t → In q t
  has_inside q x leaf h = absurd h
  has_inside q x (node n l y r) (inl h) = rw (eq-eqb q n (sym h.0)) (omega arith)
  has_inside q x (node n l y r) (inr (inl h)) = omega (arith, has_inside q x l h)
  has_inside q x (node n l y r) (inr (inr h)) = omega (arith, has_inside q x r h)

-- THE TREE THAT WAS MADE

named : (Free : ℕ → Type 0) (q : ℕ) (o : Label) (n : ℕ) → Numbered Free o n →
    ◌≡◌ {A = ℕ} (cond (eqb q n) 1 0) (cond (is_kept q o) 1 0 + cond (is_new_at q o n) 1 0)
named Free q (kept m) n e = rw e (omega arith)
named Free q new n e = omega arith

named_free : (Free : ℕ → Type 0) (q : ℕ) (o : Label) (n : ℕ) → Numbered Free o n → (is_new_at q o n ≡ false) ⊎ Free q
named_free Free q (kept m) n e = inl refl
named_free Free q new n e = by_test (eqb q n) refl
  where
    by_test : (b : Bool) → eqb q n ≡ b → (b ≡ false) ⊎ Free q
    by_test true h = inr (subst Free (sym (eqb-true q n h)) e)
    by_test false h = inl refl

-- the nodes above the link are none of the new ones
module _ {R : Type 0} where
  none_new : (q : ℕ) (t : Tree ℕ R) → new_at q (standing t) t ≡ 0
  none_new q leaf = refl
  none_new q (node n l x r) = omega (arith, none_new q l, none_new q r)

  pub new_plug : (fs : List (Frame ℕ R)) (u : Tree Label R) (t : Tree ℕ R) (q : ℕ) → new_at q (plug (standing_path fs) u) (plug fs t) ≡ new_at q u t
  new_plug [] u t q = refl
  new_plug (frame left n x v ∷ fs) u t q = new_plug fs (node (kept n) u x (standing v)) (node n t x v) q ∙ omega (arith, none_new q v)
  new_plug (frame right n x v ∷ fs) u t q = new_plug fs (node (kept n) (standing v) x u) (node n v x t) q ∙ omega (arith, none_new q v)

module _ {R : Type 0} (Free : ℕ → Type 0) where
  pub made_order : (u : Tree Label R) (t : Tree ℕ R) → MadeAs Free u t → inorder t ≡ inorder u
  made_order leaf leaf m = refl
  made_order leaf (node n l x r) m = absurd m
  made_order (node o l x r) leaf m = absurd m
  made_order (node o l x r) (node n l' x' r') m = cc (made_order l l' m.2, made_order r r' m.3, m.1)

  pub made_weight : (u : Tree Label R) (t : Tree ℕ R) → MadeAs Free u t → weight t ≡ weight u
  made_weight u t m = ap suc (alike_count t u (made_order u t m))

  pub made_balanced : (u : Tree Label R) (t : Tree ℕ R) → MadeAs Free u t → Balanced u → Balanced t
  made_balanced leaf leaf m b = tt
  made_balanced leaf (node n l x r) m b = absurd m
  made_balanced (node o l x r) leaf m b = absurd m
  made_balanced (node o l x r) (node n l' x' r') m b =
      (omega (arith, made_weight l l' m.2, made_weight r r' m.3, b.0), made_balanced l l' m.2 b.1, made_balanced r r' m.3 b.2)

  -- what stands is made as it stands
  pub made_standing : (t : Tree ℕ R) → MadeAs Free (standing t) t
  made_standing leaf = tt
  made_standing (node n l x r) = (refl, refl, made_standing l, made_standing r)

  pub made_plug : (fs : List (Frame ℕ R)) (u : Tree Label R) (t : Tree ℕ R) → MadeAs Free u t → MadeAs Free (plug (standing_path fs) u) (plug fs t)
  made_plug [] u t m = m
  made_plug (frame left n x v ∷ fs) u t m = made_plug fs (node (kept n) u x (standing v)) (node n t x v) (refl, refl, m, made_standing v)
  made_plug (frame right n x v ∷ fs) u t m = made_plug fs (node (kept n) (standing v) x u) (node n v x t) (refl, refl, made_standing v, m)

  module _ (q : ℕ) where
    pub new_free : (u : Tree Label R) (t : Tree ℕ R) → MadeAs Free u t → (new_at q u t ≡ 0) ⊎ Free q
    new_free leaf t m = inl refl
    new_free (node o l x r) leaf m = inl refl
    new_free (node o l x r) (node n l' x' r') m = together (named_free Free q o n m.0) (new_free l l' m.2) (new_free r r' m.3)
      where
        together :
            (is_new_at q o n ≡ false) ⊎ Free q → (new_at q l l' ≡ 0) ⊎ Free q → (new_at q r r' ≡ 0) ⊎ Free q →
            (new_at q (node o l x r) (node n l' x' r') ≡ 0) ⊎ Free q
        together (inr f) b c = inr f
        together (inl a) (inr f) c = inr f
        together (inl a) (inl b) (inr f) = inr f
        together (inl a) (inl b) (inl c) = inl (rw a (omega arith))

    pub made_inside : (u : Tree Label R) (t : Tree ℕ R) → MadeAs Free u t → inside (eqb q) t ≡ ins q u + new_at q u t
    made_inside leaf leaf m = refl
    made_inside leaf (node n l x r) m = absurd m
    made_inside (node o l x r) leaf m = absurd m
    made_inside (node o l x r) (node n l' x' r') m =
        omega (arith, made_inside l l' m.2, made_inside r r' m.3, named Free q o n m.0)

    made_off_step :
        (turn : R → Turn) (o p : Label) (l l' : Tree Label R) (x x' : R) (r r' : Tree Label R) (a b : ℕ) → x' ≡ x →
        off turn q l' ≤ off turn q l + a → off turn q r' ≤ off turn q r + b → ins q l' ≡ ins q l + a → ins q r' ≡ ins q r + b →
        off turn q (node p l' x' r') ≤ off turn q (node o l x r) + (a + b)
    made_off_step turn o p l l' x x' r r' a b e u v i j = rw e (grind arith)

    pub made_off : (turn : R → Turn) (u : Tree Label R) (t : Tree ℕ R) → MadeAs Free u t → off turn q (standing t) ≤ off turn q u + new_at q u t
    made_off turn leaf leaf m = omega arith
    made_off turn leaf (node n l x r) m = absurd m
    made_off turn (node o l x r) leaf m = absurd m
    made_off turn (node o l x r) (node n l' x' r') m =
        let il = made_inside l l' m.2 in
        let ir = made_inside r r' m.3 in
        let h =
        made_off_step turn o (kept n) l (standing l') x x' r (standing r') (new_at q l l') (new_at q r r') m.1
        (made_off turn l l' m.2) (made_off turn r r' m.3) (omega (arith, standing_inside q l')) (omega (arith, standing_inside q r')) in
        omega arith

  -- a node that holds x was made so, or is new
  pub made_has : (q : ℕ) (x : R) (u : Tree Label R) (t : Tree ℕ R) → MadeAs Free u t → Has q x t → Has (kept q) x u ⊎ Free q
  made_has q x u leaf m h = absurd h
  made_has q x leaf (node n l y r) m h = absurd m
  made_has q x (node (kept j) l y r) (node n l' y' r') m (inl h) = inl (inl (cc (m.0, h.0), cc (m.1, h.1)))
  made_has q x (node new l y r) (node n l' y' r') m (inl h) = inr (subst Free h.0 m.0)
  made_has q x (node o l y r) (node n l' y' r') m (inr (inl h)) =
      elim (made_has q x l l' m.2 h) [ inl k ↦ inl (inr (inl k)) | inr f ↦ inr f ]
  made_has q x (node o l y r) (node n l' y' r') m (inr (inr h)) =
      elim (made_has q x r r' m.3 h) [ inl k ↦ inl (inr (inr k)) | inr f ↦ inr f ]

-- FROM A TREE THAT STANDS TO THE TREE THAT STANDS AFTER

module _ {R : Type 0} (Free : ℕ → Type 0) (t : Tree ℕ R) (u : Tree Label R) (t' : Tree ℕ R)
    (free : (q : ℕ) → Free q → inside (eqb q) t ≡ 0) (made : MadeAs Free u t') where
  pub keeps_path : (turn : R → Turn) → Distinct t → Loyal turn (standing t) u → KeepsPath turn t t'
  keeps_path turn d y q on i =
      let none = new_none (new_free Free q u t' made) on in
      omega (
        arith,
        d q,
        y.fewer q,
        y.nearer q,
        made_inside Free q u t' made,
        made_off Free q turn u t' made,
        on_off turn q (standing t),
        on_off turn q (standing t'),
        standing_inside q t,
        standing_inside q t',
        standing_times turn q t,
        standing_times turn q t',
      )
    where
      new_none : (new_at q u t' ≡ 0) ⊎ Free q → On q (path turn t) → new_at q u t' ≡ 0
      new_none (inl e) on = e
      new_none (inr f) on = absurd (omega (arith, free q f, on_off turn q (standing t), standing_inside q t, standing_times turn q t))

  pub keeps_regions : (turn : R → Turn) → Loyal turn (standing t) u → KeepsRegions t t'
  keeps_regions turn y q x i h = by_way (made_has Free q x u t' made h)
    where
      by_way : Has (kept q) x u ⊎ Free q → Has q x t
      by_way (inl k) = standing_has q x t (y.held q x k)
      by_way (inr f) = absurd (omega (arith, free q f))

  -- no number is there twice if no two new nodes are at the same
  pub keeps_distinct : (turn : R → Turn) → Distinct t → Loyal turn (standing t) u → ((q : ℕ) → new_at q u t' ≤ 1) → Distinct t'
  keeps_distinct turn d y once q = by_way (new_free Free q u t' made)
    where
      by_way : (new_at q u t' ≡ 0) ⊎ Free q → inside (eqb q) t' ≤ 1
      by_way (inl e) = omega (arith, d q, y.fewer q, made_inside Free q u t' made, standing_inside q t)
      by_way (inr f) = omega (arith, free q f, y.fewer q, made_inside Free q u t' made, standing_inside q t, once q)
