-- A tree over a path of frames, where what stands under the path has changed.
use Rattle.std.proofs.Common.{◌≡◌, ℕ, ◌+◌, ◌≤◌, Bool, true, false, cond, eqb, ◌⊎◌, List, [], ◌∷◌, length, sym, refl, ◌∙◌, subst, arith}
use Rattle.std.proofs.lemmas.Bool.{both_ways, eq-eqb, or_left, or_right}
use Rattle.store.specs.declared.node.Node.{Node}
use Rattle.store.specs.declared.node.Region.{Region}
use Rattle.store.specs.Nodes.{region_of}
use Rattle.store.specs.Cells.{readable, cell_at}
use Rattle.trees.specs.Trees.{Side, left, right, Tree, pick, beside, count}
use Rattle.trees.specs.Edits.{Frame, frame, labels, plug}
use Rattle.trees.specs.Paths.{inside}
use Rattle.commits.specs.Commits.{with_link}
use Rattle.runs.specs.States.{Cells, Spells, member}
use Rattle.placing.specs.Placings.{lean_of}
use Rattle.placing.proofs.Spellings.{fewer, at_itself, node_as, Stays, spells_stays}

module _ {R : Type 0} where
  -- how often a number stands on a path, or beside it
  abbrev pub around : ℕ → List (Frame ℕ R) → ℕ
  around m [] = 0
  around m (frame s n x u ∷ fs) = cond (eqb m n) 1 0 + inside (eqb m) u + around m fs

  beside_inside : (m : ℕ) (s : Side) (n : ℕ) (t : Tree ℕ R) (x : R) (u : Tree ℕ R) → inside (eqb m) (beside s n t x u) ≡ cond (eqb m n) 1 0 + (inside (eqb m) t + inside (eqb m) u)
  beside_inside m left n t x u = refl
  beside_inside m right n t x u = omega arith

  pub plug_inside : (m : ℕ) (fs : List (Frame ℕ R)) (t : Tree ℕ R) → inside (eqb m) (plug fs t) ≡ inside (eqb m) t + around m fs
  plug_inside m [] t = omega arith
  plug_inside m (frame s n x u ∷ fs) t = omega (arith, plug_inside m fs (beside s n t x u), beside_inside m s n t x u)

  pub label_around : (m : ℕ) (fs : List (Frame ℕ R)) → member m (labels fs) ≡ true → 1 ≤ around m fs
  label_around m [] e = absurd (both_ways false refl e)
  label_around m (frame s n x u ∷ fs) e = by_test (eqb m n) refl (label_around m fs)
    where
      by_test : (b : Bool) → eqb m n ≡ b → (member m (labels fs) ≡ true → 1 ≤ around m fs) → 1 ≤ around m (frame s n x u ∷ fs)
      by_test true h ih = rw h (omega arith)
      by_test false h ih = let k = ih (rw h at e) in omega arith

module _ {K : Type 0} where
  -- the link of a node on a side, and its other one
  abbrev pub near : Side → Node K → ℕ
  near s v = pick s v.left v.right

  abbrev pub far : Side → Node K → ℕ
  far s v = pick s v.right v.left

  -- nodes that differ at most in their size and in the link on a side
  pub record Alike (s : Side) (v v' : Node K) : Type 0 where
    pub mark : v'.mark ≡ v.mark
    pub region : region_of v' ≡ region_of v
    pub waits : v'.waits ≡ v.waits
    pub far_link : far s v' ≡ far s v

  link_alike : (s : Side) (k : ℕ) (v : Node K) → Alike s v (with_link (lean_of s) k v)
  link_alike left k v = record { mark = refl; region = refl; waits = refl; far_link = refl }
  link_alike right k v = record { mark = refl; region = refl; waits = refl; far_link = refl }

  link_near : (s : Side) (k : ℕ) (v : Node K) → near s (with_link (lean_of s) k v) ≡ k
  link_near left k v = refl
  link_near right k v = refl

module _ {K : Type 0} (cs ds : Cells K) (long : length ds ≡ length cs) (pend pend' : List ℕ) where
  -- what is spelled from a link on before is spelled, changed, after
  abbrev pub Passes : Tree ℕ (Region K) → Tree ℕ (Region K) → Type 0
  Passes t t' = (link : ℕ) → Spells cs pend link t → Spells ds pend' link t'

  -- a node that changes, but not in what makes it this node of the tree, over a side that changes and one that stays
  pub over_node :
      (s : Side) (n : ℕ) (x : Region K) (u t t' : Tree ℕ (Region K)) (renewed : Node K → Node K) → ((v : Node K) → Alike s v (renewed v)) →
      ((v : Node K) → cell_at cs n ≡ readable v → cell_at ds n ≡ readable (renewed v)) →
      ((v : Node K) → member n pend' ≡ false → (renewed v).size ≡ count (beside s n t' x u)) →
      ((v : Node K) → Spells cs pend (near s v) t → Spells ds pend' (near s (renewed v)) t') →
      ((m : ℕ) → (inside (eqb m) u ≡ 0) ⊎ Stays cs ds pend pend' m) → Passes (beside s n t x u) (beside s n t' x u)
  over_node left n x u t t' renewed alike there counted below f link sp =
      let v = sp.0 in
      let a = alike v in
      let far = spells_stays cs ds long pend pend' v.right u f sp.4 in (
        renewed v,
        sp.1,
        node_as cs ds pend pend' n x _ _ v (renewed v) long (there v sp.2.can_be_read) a.mark a.region a.waits (counted v) sp.2,
        below v sp.3,
        subst (λ (i : ℕ). Spells ds pend' i u) (sym a.far_link) far,
      )
  over_node right n x u t t' renewed alike there counted below f link sp =
      let v = sp.0 in
      let a = alike v in
      let far = spells_stays cs ds long pend pend' v.left u f sp.3 in (
        renewed v,
        sp.1,
        node_as cs ds pend pend' n x _ _ v (renewed v) long (there v sp.2.can_be_read) a.mark a.region a.waits (counted v) sp.2,
        subst (λ (i : ℕ). Spells ds pend' i u) (sym a.far_link) far,
        below v sp.4,
      )

  -- a pending node may have any size
  any_size : (n k many : ℕ) → member n pend' ≡ true → member n pend' ≡ false → k ≡ many
  any_size n k many on off = absurd (both_ways (member n pend') off on)

  -- a path of pending nodes, all as they were, over what changes
  pub over_path :
      (fs : List (Frame ℕ (Region K))) (t t' : Tree ℕ (Region K)) → ((m : ℕ) → member m (labels fs) ≡ true → member m pend' ≡ true) →
      ((m : ℕ) → (around m fs ≡ 0) ⊎ Stays cs ds pend pend' m) → Passes t t' → Passes (plug fs t) (plug fs t')
  over_path [] t t' on f below = below
  over_path (frame s n x u ∷ fs) t t' on f below =
      let cell = (at_itself n (inside (eqb n) u + around n fs) (fewer _ _ (omega arith) (f n))).cell in
      let here = on n (or_left (eqb n n) (member n (labels fs)) (eq-eqb n n refl)) in
      over_path fs (beside s n t x u) (beside s n t' x u) (λ m e. on m (or_right (eqb m n) (member m (labels fs)) e))
      (λ m. fewer _ _ (omega arith) (f m))
      (over_node s n x u t t' (λ v. v) (λ v. record { mark = refl; region = refl; waits = refl; far_link = refl }) (λ v c. cell ∙ c)
      (λ v off. any_size n _ _ here off) (λ v sp. below (near s v) sp) (λ m. fewer _ _ (omega arith) (f m)))

  -- the node of the lowest frame, led to another link
  pub led :
      (s : Side) (n : ℕ) (x : Region K) (u t t' : Tree ℕ (Region K)) (k : ℕ) →
      ((v : Node K) → cell_at cs n ≡ readable v → cell_at ds n ≡ readable (with_link (lean_of s) k v)) → member n pend' ≡ true →
      ((m : ℕ) → (inside (eqb m) u ≡ 0) ⊎ Stays cs ds pend pend' m) → Spells ds pend' k t' → Passes (beside s n t x u) (beside s n t' x u)
  led s n x u t t' k there on f below =
      over_node s n x u t t' (with_link (lean_of s) k) (link_alike s k) there (λ v off. any_size n _ _ on off)
      (λ v sp. subst (λ (i : ℕ). Spells ds pend' i t') (sym (link_near s k v)) below) f
