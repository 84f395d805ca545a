-- Paths of frames: what the tree over them lists and weighs, and what the way down leaves of a tree.
use Rattle.std.proofs.Common.{◌≡◌, ℕ, ◌+◌, List, [], ◌∷◌, ◌++◌, length, Some, sym, refl, ap, ◌∙◌, subst, append_assoc, append-nil, arith, length-append}
use Rattle.trees.specs.Trees.{Side, left, right, Turn, to_left, here, to_right, towards, at_turn, Tree, leaf, node, beside, inorder, count, weight, Even, Balanced, found, root, path}
use Rattle.trees.specs.Rotations.{Label, new, Near}
use Rattle.trees.specs.Edits.{Frame, frame, labels, Place, place, plug, whole, descend, settled, climb, WereBalanced}
use Rattle.trees.specs.Theorems.{onto, top_label, GoesDown}
use Rattle.trees.proofs.Risings.{All, all_front, all_rest, Rising, rising_part}
use Rattle.trees.proofs.Rotations.{balance_order, balance_count, balance_balanced}

pub count_order : {L R : Type 0} (t : Tree L R) → count t ≡ length (inorder t)
count_order leaf = refl
count_order (node o l x r) = simp length-append (omega (arith, count_order l, count_order r))

pub alike_count : {L M R : Type 0} (t : Tree L R) (u : Tree M R) → inorder t ≡ inorder u → count t ≡ count u
alike_count t u e = count_order t ∙ ap length e ∙ sym (count_order u)

-- THE LIST OF A TREE OVER A PATH: what the path leaves on its left, then what is under it, then what it leaves on its right

module _ {L R : Type 0} where
  abbrev pub befores : List (Frame L R) → List R
  befores [] = []
  befores (frame left o x u ∷ fs) = befores fs
  befores (frame right o x u ∷ fs) = befores fs ++ (inorder u ++ (x ∷ []))

  abbrev pub afters : List (Frame L R) → List R
  afters [] = []
  afters (frame left o x u ∷ fs) = (x ∷ inorder u) ++ afters fs
  afters (frame right o x u ∷ fs) = afters fs

  pub plug_order : (fs : List (Frame L R)) (t : Tree L R) → inorder (plug fs t) ≡ befores fs ++ (inorder t ++ afters fs)
  plug_order [] t = sym (append-nil (inorder t))
  plug_order (frame left o x u ∷ fs) t = plug_order fs (node o t x u) ∙ simp append_assoc
  plug_order (frame right o x u ∷ fs) t = plug_order fs (node o u x t) ∙ simp append_assoc

  pub plug_alike : (fs : List (Frame L R)) (t u : Tree L R) → inorder t ≡ inorder u → inorder (plug fs t) ≡ inorder (plug fs u)
  plug_alike fs t u e = plug_order fs t ∙ ap (λ (xs : List R). befores fs ++ (xs ++ afters fs)) e ∙ sym (plug_order fs u)

  -- what is under a path rises if the whole does
  pub plug_rising : (Before : R → R → Type 0) (fs : List (Frame L R)) (t : Tree L R) → Rising Before (inorder (plug fs t)) → Rising Before (inorder t)
  plug_rising Before fs t h = rising_part Before (befores fs) (inorder t) (afters fs) (subst (λ (xs : List R). Rising Before xs) (plug_order fs t) h)

  pub plug_all : (P : R → Type 0) (fs : List (Frame L R)) (t : Tree L R) → All P (inorder (plug fs t)) → All P (inorder t)
  plug_all P fs t h =
      all_front P (inorder t) (afters fs) (all_rest P (befores fs) (inorder t ++ afters fs) (subst (λ (xs : List R). All P xs) (plug_order fs t) h))

  -- A path that only goes left
  abbrev pub AllLeft : List (Frame L R) → Type 0
  AllLeft [] = Unit {0}
  AllLeft (frame left o x u ∷ fs) = AllLeft fs
  AllLeft (frame right o x u ∷ fs) = ⊥

  none_before : (fs : List (Frame L R)) → AllLeft fs → befores fs ≡ []
  none_before [] a = refl
  none_before (frame left o x u ∷ fs) a = none_before fs a
  none_before (frame right o x u ∷ fs) a = absurd a

  pub edge_order : (fs : List (Frame L R)) (t : Tree L R) → AllLeft fs → inorder (plug fs t) ≡ inorder t ++ afters fs
  edge_order fs t a = plug_order fs t ∙ ap (λ (xs : List R). xs ++ (inorder t ++ afters fs)) (none_before fs a)

-- THE WAY DOWN

module _ {L R : Type 0} (turn : R → Turn) where
  -- what each step down keeps, the way down keeps
  module _ (P : List (Frame L R) → Tree L R → Type 0)
      (step : (s : Side) (fs : List (Frame L R)) (o : L) (t : Tree L R) (x : R) (u : Tree L R) → turn x ≡ towards s →
      P fs (beside s o t x u) → P (frame s o x u ∷ fs) t) where
    pub descend_keeps : (fs : List (Frame L R)) (t : Tree L R) → P fs t → P (descend turn fs t).above (descend turn fs t).under
    descend_keeps fs leaf h = h
    descend_keeps fs (node o l x r) h =
        by_turn (turn x) refl (λ e. descend_keeps (frame left o x r ∷ fs) l (step left fs o l x r e h))
        (λ e. descend_keeps (frame right o x l ∷ fs) r (step right fs o r x l e h))
      where
        by_turn :
            (v : Turn) → turn x ≡ v →
            (turn x ≡ to_left → P (descend turn (frame left o x r ∷ fs) l).above (descend turn (frame left o x r ∷ fs) l).under) →
            (turn x ≡ to_right → P (descend turn (frame right o x l ∷ fs) r).above (descend turn (frame right o x l ∷ fs) r).under) →
            P (at_turn v (descend turn (frame left o x r ∷ fs) l) (place fs (node o l x r)) (descend turn (frame right o x l ∷ fs) r)).above
            (at_turn v (descend turn (frame left o x r ∷ fs) l) (place fs (node o l x r)) (descend turn (frame right o x l ∷ fs) r)).under
        by_turn to_left e a b = a e
        by_turn here e a b = h
        by_turn to_right e a b = b e

  pub descend_whole : (fs : List (Frame L R)) (t : Tree L R) → whole (descend turn fs t) ≡ plug fs t
  descend_whole fs t = descend_keeps (λ gs u. plug gs u ≡ plug fs t) (λ s gs o u x v e h. h) fs t refl

  -- a balanced tree: the nodes above the link were balanced with what is under it
  down_balanced :
      (s : Side) (fs : List (Frame L R)) (o : L) (t : Tree L R) (x : R) (u : Tree L R) → turn x ≡ towards s →
      Balanced (beside s o t x u) × WereBalanced (weight (beside s o t x u)) fs → Balanced t × WereBalanced (weight t) (frame s o x u ∷ fs)
  down_balanced left fs o t x u e h =
      let w : weight (node o t x u) ≡ weight t + weight u = omega arith in
      (h.0.1, (h.0.0, h.0.2, subst (λ (n : ℕ). WereBalanced n fs) w h.1))
  down_balanced right fs o t x u e h =
      let w : weight (node o u x t) ≡ weight t + weight u = omega arith in
      let g = h.0.0 in
      (h.0.2, (omega arith, h.0.1, subst (λ (n : ℕ). WereBalanced n fs) w h.1))

  pub descend_balanced :
      (t : Tree L R) → Balanced t → Balanced (descend turn [] t).under × WereBalanced (weight (descend turn [] t).under) (descend turn [] t).above
  descend_balanced t b = descend_keeps (λ fs u. Balanced u × WereBalanced (weight u) fs) down_balanced [] t (b, tt)

  -- the search ends at what it seeks, or at an empty link
  abbrev pub Ends : Tree L R → Type 0
  Ends leaf = Unit {0}
  Ends (node o l x r) = turn x ≡ here

  pub descend_ends : (fs : List (Frame L R)) (t : Tree L R) → Ends (descend turn fs t).under
  descend_ends fs leaf = tt
  descend_ends fs (node o l x r) =
      by_turn (turn x) refl (descend_ends (frame left o x r ∷ fs) l) (descend_ends (frame right o x l ∷ fs) r)
    where
      by_turn :
          (v : Turn) → turn x ≡ v → Ends (descend turn (frame left o x r ∷ fs) l).under → Ends (descend turn (frame right o x l ∷ fs) r).under →
          Ends (at_turn v (descend turn (frame left o x r ∷ fs) l) (place fs (node o l x r)) (descend turn (frame right o x l ∷ fs) r)).under
      by_turn to_left e a b = a
      by_turn here e a b = e
      by_turn to_right e a b = b

  -- what stands under the link is what the search finds
  pub descend_found : (fs : List (Frame L R)) (t : Tree L R) → found turn t ≡ root (descend turn fs t).under
  descend_found fs leaf = refl
  descend_found fs (node o l x r) =
      by_turn (turn x) (descend_found (frame left o x r ∷ fs) l) (descend_found (frame right o x l ∷ fs) r)
    where
      by_turn :
          (v : Turn) → found turn l ≡ root (descend turn (frame left o x r ∷ fs) l).under → found turn r ≡ root (descend turn (frame right o x l ∷ fs) r).under →
          at_turn v (found turn l) (Some x) (found turn r)
          ≡ root (at_turn v (descend turn (frame left o x r ∷ fs) l) (place fs (node o l x r)) (descend turn (frame right o x l ∷ fs) r)).under
      by_turn to_left a b = a
      by_turn here a b = refl
      by_turn to_right a b = b

  -- and the nodes above it are those that it visits
  abbrev all : Place L R → List L
  all p = onto (labels p.above) (top_label p.under)

  pub descend_path :
      (fs : List (Frame L R)) (t : Tree L R) →
      onto (labels (descend turn fs t).above) (top_label (descend turn fs t).under) ≡ onto (labels fs) (path turn t)
  descend_path fs leaf = refl
  descend_path fs (node o l x r) = by_turn (turn x) (descend_path (frame left o x r ∷ fs) l) (descend_path (frame right o x l ∷ fs) r)
    where
      by_turn :
          (v : Turn) → all (descend turn (frame left o x r ∷ fs) l) ≡ onto (labels fs) (o ∷ path turn l) →
          all (descend turn (frame right o x l ∷ fs) r) ≡ onto (labels fs) (o ∷ path turn r) →
          all (at_turn v (descend turn (frame left o x r ∷ fs) l) (place fs (node o l x r)) (descend turn (frame right o x l ∷ fs) r))
          ≡ onto (labels fs) (o ∷ at_turn v (path turn l) [] (path turn r))
      by_turn to_left a b = a
      by_turn here a b = refl
      by_turn to_right a b = b

-- THE LEFT EDGE of a tree, the lowest first
module _ {L R : Type 0} where
  abbrev pub left_edge : Tree L R → List (Frame L R)
  left_edge t = (descend (λ x. to_left) [] t).above

  edge_left : (s : Side) (fs : List (Frame L R)) (o : L) (t : Tree L R) (x : R) (u : Tree L R) → to_left ≡ towards s → AllLeft fs → AllLeft (frame s o x u ∷ fs)
  edge_left left fs o t x u e a = a
  edge_left right fs o t x u e a = let z : ◌≡◌ {A = ℕ} 0 1 = cc in omega arith

  pub edge_all_left : (t : Tree L R) → AllLeft (left_edge t)
  edge_all_left t = descend_keeps (λ x. to_left) (λ fs u. AllLeft fs) edge_left [] t tt

  edge_ends : (t : Tree L R) → Ends (λ x. to_left) t → t ≡ leaf
  edge_ends leaf e = refl
  edge_ends (node o l x r) e = let z : ◌≡◌ {A = ℕ} 0 1 = cc in absurd (omega arith)

  pub edge_under : (t : Tree L R) → (descend (λ x. to_left) [] t).under ≡ leaf
  edge_under t = edge_ends (descend (λ x. to_left) [] t).under (descend_ends (λ x. to_left) [] t)

  pub edge_whole : (t : Tree L R) → plug (left_edge t) leaf ≡ t
  edge_whole t =
      ap (λ (u : Tree L R). plug (left_edge t) u) (sym (edge_under t)) ∙ descend_whole (λ x. to_left) [] t

-- EVERY NODE OF A PATH BALANCED, from the lowest up

module _ {R : Type 0} where
  pub settled_order : (s : Side) (o : Label) (x : R) (u t : Tree Label R) → inorder (settled (frame s o x u) t) ≡ inorder (beside s o t x u)
  settled_order left o x u t = balance_order o t x u
  settled_order right o x u t = balance_order o u x t

  pub climb_order : (fs : List (Frame Label R)) (t : Tree Label R) → inorder (climb fs t) ≡ inorder (plug fs t)
  climb_order [] t = refl
  climb_order (frame s o x u ∷ fs) t =
      climb_order fs (settled (frame s o x u) t) ∙ plug_alike fs (settled (frame s o x u) t) (beside s o t x u) (settled_order s o x u t)

  -- the same, of new nodes
  abbrev pub renewed : List (Frame Label R) → List (Frame Label R)
  renewed [] = []
  renewed (frame s o x u ∷ fs) = frame s new x u ∷ renewed fs

  abbrev pub copied : List (Frame Label R) → Tree Label R → Tree Label R
  copied fs t = climb (renewed fs) t

  pub renewed_order : (fs : List (Frame Label R)) (t : Tree Label R) → inorder (plug (renewed fs) t) ≡ inorder (plug fs t)
  renewed_order [] t = refl
  renewed_order (frame left o x u ∷ fs) t = renewed_order fs (node new t x u) ∙ plug_alike fs (node new t x u) (node o t x u) refl
  renewed_order (frame right o x u ∷ fs) t = renewed_order fs (node new u x t) ∙ plug_alike fs (node new u x t) (node o u x t) refl

  pub copied_order : (fs : List (Frame Label R)) (t : Tree Label R) → inorder (copied fs t) ≡ inorder (plug fs t)
  copied_order fs t = climb_order (renewed fs) t ∙ renewed_order fs t

  -- one node balanced, over a tree that weighed w when it last was
  pub settled_balanced :
      (s : Side) (w : ℕ) (o : Label) (x : R) (u t : Tree Label R) → Even w (weight u) → Balanced u → Near 1 w (weight t) → Balanced t →
      Near 1 (w + weight u) (weight (settled (frame s o x u) t)) × Balanced (settled (frame s o x u) t)
  settled_balanced left w o x u t e bu d bt =
      (omega (arith, balance_count o t x u), balance_balanced o t x u (omega arith) bt bu)
  settled_balanced right w o x u t e bu d bt =
      (omega (arith, balance_count o u x t), balance_balanced o u x t (omega arith) bu bt)

  pub climb_balanced :
      (fs : List (Frame Label R)) (w : ℕ) (t : Tree Label R) → WereBalanced w fs → Near 1 w (weight t) → Balanced t → Balanced (climb fs t)
  climb_balanced [] w t h d b = b
  climb_balanced (frame s o x u ∷ fs) w t h d b =
      let g = settled_balanced s w o x u t h.0 h.1 d b in
      climb_balanced fs (w + weight u) (settled (frame s o x u) t) h.2 g.0 g.1

  renewed_balanced : (fs : List (Frame Label R)) (w : ℕ) → WereBalanced w fs → WereBalanced w (renewed fs)
  renewed_balanced [] w h = tt
  renewed_balanced (frame s o x u ∷ fs) w h = (h.0, h.1, renewed_balanced fs (w + weight u) h.2)

  pub copied_balanced :
      (fs : List (Frame Label R)) (w : ℕ) (t : Tree Label R) → WereBalanced w fs → Near 1 w (weight t) → Balanced t → Balanced (copied fs t)
  copied_balanced fs w t h d b = climb_balanced (renewed fs) w t (renewed_balanced fs w h) d b

-- where a search ends
pub goes_down : {R : Type 0} (turn : R → Turn) (t : Tree ℕ R) → GoesDown turn t
goes_down turn t = record {
  same_tree = descend_whole turn [] t;
  same_path = descend_path turn [] t;
  same_end = sym (descend_found turn [] t);
}
