-- How often a node is off the path of a search. No edit makes that more often: so what it keeps stays on the path.
use Rattle.std.proofs.Common.{◌≡◌, ℕ, ◌+◌, ◌≤◌, Bool, true, false, eqb, ◌⊎◌, [], ◌∷◌, ◌++◌, sym, refl, ◌∙◌, inl, inr, append_assoc, arith}
use Rattle.trees.specs.Trees.{Side, left, right, Turn, to_left, to_right, at_turn, Tree, leaf, node, beside, inorder, path}
use Rattle.trees.specs.Rotations.{Label, kept, new, single, rotate, too_heavy, balance_by, balance}
use Rattle.trees.specs.Paths.{times, inside, Has}
use Rattle.trees.proofs.Risings.{PartsWays, Rising, two_rise, three_rise}

-- the kept node q, how often it is in the tree, and how often off the path
abbrev pub is_kept : ℕ → Label → Bool
is_kept q (kept n) = eqb q n
is_kept q new = false

abbrev pub ins : {R : Type 0} → ℕ → Tree Label R → ℕ
ins q t = inside (is_kept q) t

abbrev pub off : {R : Type 0} → (R → Turn) → ℕ → Tree Label R → ℕ
off turn q leaf = 0
off turn q (node o l x r) = at_turn (turn x) (off turn q l + ins q r) (ins q l + ins q r) (ins q l + off turn q r)

-- from t to u no node comes in, none goes off the path, and each holds what it held
pub record Loyal {R : Type 0} (turn : R → Turn) (t u : Tree Label R) : Type 0 where
  pub fewer : (q : ℕ) → ins q u ≤ ins q t
  pub nearer : (q : ℕ) → off turn q u ≤ off turn q t
  pub held : (q : ℕ) (x : R) → Has (kept q) x u → Has (kept q) x t

module _ {R : Type 0} where
  -- a new node is no node that was there
  pub under_new : (q : ℕ) (x : R) (l : Tree Label R) (y : R) (r : Tree Label R) → Has (kept q) x (node new l y r) → Has (kept q) x l ⊎ Has (kept q) x r
  under_new q x l y r (inl e) = let z : ◌≡◌ {A = ℕ} 0 1 = cc e.0 in absurd (omega arith)
  under_new q x l y r (inr h) = h

  -- what a node held, it holds under another label that is the same or new
  relabelled :
      (o p : Label) (l l' : Tree Label R) (y : R) (r r' : Tree Label R) (q : ℕ) (x : R) → (p ≡ o) ⊎ (p ≡ new) →
      (Has (kept q) x l' → Has (kept q) x l) → (Has (kept q) x r' → Has (kept q) x r) →
      Has (kept q) x (node p l' y r') → Has (kept q) x (node o l y r)
  relabelled o p l l' y r r' q x (inl e) a b (inl h) = inl (sym e ∙ h.0, h.1)
  relabelled o p l l' y r r' q x (inr e) a b (inl h) = let z : ◌≡◌ {A = ℕ} 0 1 = cc h.0 in absurd (omega arith)
  relabelled o p l l' y r r' q x e a b (inr (inl h)) = inr (inl (a h))
  relabelled o p l l' y r r' q x e a b (inr (inr h)) = inr (inr (b h))

  rotate_held : (s : Side) (o : Label) (t : Tree Label R) (y : R) (u : Tree Label R) (q : ℕ) (x : R) → Has (kept q) x (rotate s t y u) → Has (kept q) x (beside s o t y u)
  rotate_held left o t y leaf q x h = grind arith
  rotate_held left o t y (node p leaf z c) q x h = grind arith
  rotate_held left o t y (node p (node j a w b) z c) q x h = grind arith
  rotate_held right o t y leaf q x h = grind arith
  rotate_held right o t y (node p c z leaf) q x h = grind arith
  rotate_held right o t y (node p c z (node j a w b)) q x h = grind arith

  balance_held : (o : Label) (l : Tree Label R) (y : R) (r : Tree Label R) (q : ℕ) (x : R) → Has (kept q) x (balance o l y r) → Has (kept q) x (node o l y r)
  balance_held o l y r q x h = by_rule (too_heavy r l) (too_heavy l r) h
    where
      by_rule : (b c : Bool) → Has (kept q) x (balance_by b c o l y r) → Has (kept q) x (node o l y r)
      by_rule true c h = rotate_held left o l y r q x h
      by_rule false true h = rotate_held right o r y l q x h
      by_rule false false h = h

module _ {R : Type 0} (turn : R → Turn) where
  pub off_inside : (q : ℕ) (t : Tree Label R) → off turn q t ≤ ins q t
  off_inside q leaf = omega arith
  off_inside q (node o l x r) = grind (arith, off_inside q l, off_inside q r)

  pub on_off : (q : ℕ) (t : Tree Label R) → times (is_kept q) (path turn t) + off turn q t ≡ ins q t
  on_off q leaf = refl
  on_off q (node o l x r) = grind (arith, on_off q l, on_off q r)

  pub loyal_same : (t : Tree Label R) → Loyal turn t t
  loyal_same t = record { fewer = λ q. omega arith; nearer = λ q. omega arith; held = λ q x h. h }

  pub loyal_then : (t u v : Tree Label R) → Loyal turn t u → Loyal turn u v → Loyal turn t v
  loyal_then t u v a b = record {
    fewer = λ q. omega (arith, a.fewer q, b.fewer q);
    nearer = λ q. omega (arith, a.nearer q, b.nearer q);
    held = λ q x h. a.held q x (b.held q x h);
  }

  -- under a node that is kept or renewed
  pub loyal_beside :
      (s : Side) (o p : Label) (t t' : Tree Label R) (x : R) (u : Tree Label R) → (p ≡ o) ⊎ (p ≡ new) →
      Loyal turn t t' → Loyal turn (beside s o t x u) (beside s p t' x u)
  loyal_beside s o p t t' x u e a = record {
    fewer = λ q. node_fewer s q e (a.fewer q);
    nearer = λ q. node_nearer s q (a.fewer q) (a.nearer q);
    held = λ q y h. node_held s q y h;
  }
    where
      node_held : (s : Side) (q : ℕ) (y : R) → Has (kept q) y (beside s p t' x u) → Has (kept q) y (beside s o t x u)
      node_held left q y h = relabelled o p t t' x u u q y e (a.held q y) (λ k. k) h
      node_held right q y h = relabelled o p u u x t t' q y e (λ k. k) (a.held q y) h

      node_fewer : (s : Side) (q : ℕ) → (p ≡ o) ⊎ (p ≡ new) → ins q t' ≤ ins q t → ins q (beside s p t' x u) ≤ ins q (beside s o t x u)
      node_fewer left q (inl e) a = rw e (omega arith)
      node_fewer left q (inr e) a = rw e (omega arith)
      node_fewer right q (inl e) a = rw e (omega arith)
      node_fewer right q (inr e) a = rw e (omega arith)

      node_nearer :
          (s : Side) (q : ℕ) → ins q t' ≤ ins q t → off turn q t' ≤ off turn q t → off turn q (beside s p t' x u) ≤ off turn q (beside s o t x u)
      node_nearer left q a b = grind arith
      node_nearer right q a b = grind arith

  -- ROTATIONS

  -- x is before y, seen from the side s
  abbrev Apart : Side → R → R → Type 0
  Apart left x y = (turn x ≡ to_right) ⊎ (turn y ≡ to_left)
  Apart right x y = (turn y ≡ to_right) ⊎ (turn x ≡ to_left)

  single_nearer :
      (s : Side) (q : ℕ) (o p : Label) (t : Tree Label R) (x : R) (a : Tree Label R) (y : R) (b : Tree Label R) → Apart s x y →
      off turn q (single s t x a y b) ≤ off turn q (beside s o t x (beside s p a y b))
  single_nearer left q o p t x a y b w = grind arith
  single_nearer right q o p t x a y b w = grind arith

  double_nearer :
      (s : Side) (q : ℕ) (o p j : Label) (t : Tree Label R) (x : R) (a : Tree Label R) (z : R) (b : Tree Label R) (y : R) (c : Tree Label R) →
      Apart s x z → Apart s z y → Apart s x y →
      off turn q (beside s new (beside s new t x a) z (beside s new b y c)) ≤ off turn q (beside s o t x (beside s p (beside s j a z b) y c))
  double_nearer left q o p j t x a z b y c u v w = grind arith
  double_nearer right q o p j t x a z b y c u v w = grind arith

  balance_fewer : (q : ℕ) (o : Label) (l : Tree Label R) (x : R) (r : Tree Label R) → ins q (balance o l x r) ≤ ins q (node o l x r)
  balance_fewer q o l x r = grind arith

  module _ (Before : R → R → Type 0) (ways : PartsWays Before turn) where
    rotate_nearer :
        (s : Side) (q : ℕ) (o : Label) (t : Tree Label R) (x : R) (u : Tree Label R) → Rising Before (inorder (beside s o t x u)) →
        off turn q (rotate s t x u) ≤ off turn q (beside s o t x u)
    rotate_nearer left q o t x leaf h = grind arith
    rotate_nearer left q o t x (node p leaf y c) h =
        let w = single_nearer left q o p t x leaf y c (ways x y (two_rise Before (inorder t) x [] y (inorder c) h)) in
        grind (arith, w)
    rotate_nearer left q o t x (node p (node j a z b) y c) h =
        let k = three_rise Before (inorder t) x (inorder a) z (inorder b) y (inorder c) (simp append_assoc at h) in
        let v = single_nearer left q o p t x (node j a z b) y c (ways x y k.2) in
        let w = double_nearer left q o p j t x a z b y c (ways x z k.0) (ways z y k.1) (ways x y k.2) in
        grind (arith, v, w)
    rotate_nearer right q o t x leaf h = grind arith
    rotate_nearer right q o t x (node p c y leaf) h =
        let w = single_nearer right q o p t x leaf y c (ways y x (two_rise Before (inorder c) y [] x (inorder t) (simp append_assoc at h))) in
        grind (arith, w)
    rotate_nearer right q o t x (node p c y (node j a z b)) h =
        let k = three_rise Before (inorder c) y (inorder a) z (inorder b) x (inorder t) (simp append_assoc at h) in
        let v = single_nearer right q o p t x (node j a z b) y c (ways y x k.2) in
        let w = double_nearer right q o p j t x b z a y c (ways z x k.1) (ways y z k.0) (ways y x k.2) in
        grind (arith, v, w)

    balance_nearer :
        (q : ℕ) (o : Label) (l : Tree Label R) (x : R) (r : Tree Label R) → Rising Before (inorder l ++ (x ∷ inorder r)) →
        off turn q (balance o l x r) ≤ off turn q (node o l x r)
    balance_nearer q o l x r h = by_rule (too_heavy r l) (too_heavy l r)
      where
        by_rule : (b c : Bool) → off turn q (balance_by b c o l x r) ≤ off turn q (node o l x r)
        by_rule true c = rotate_nearer left q o l x r h
        by_rule false true = rotate_nearer right q o r x l h
        by_rule false false = omega arith

    pub balance_loyal :
        (o : Label) (l : Tree Label R) (x : R) (r : Tree Label R) → Rising Before (inorder l ++ (x ∷ inorder r)) →
        Loyal turn (node o l x r) (balance o l x r)
    balance_loyal o l x r h = record { fewer = λ q. balance_fewer q o l x r; nearer = λ q. balance_nearer q o l x r h; held = balance_held o l x r }
