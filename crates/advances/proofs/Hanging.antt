-- Where a node of the tree hangs.
use Rattle.std.proofs.Common.{◌≡◌, ℕ, suc, ◌+◌, ◌≤◌, false, eqb, List, [], ◌∷◌, reverse, Some, None, Ok, sym, refl, ap, ◌∙◌, subst, arith}
use Rattle.std.proofs.lemmas.Bool.{eq-eqb}
use Rattle.store.specs.declared.node.Node.{Node}
use Rattle.store.specs.declared.node.Region.{Region}
use Rattle.store.specs.Cells.{Cell, read_answer}
use Rattle.trees.specs.Trees.{Side, left, right, Tree, leaf, node, beside, count}
use Rattle.trees.specs.Paths.{inside, In, Distinct}
use Rattle.trees.specs.Edits.{Frame, frame, labels, plug}
use Rattle.search.specs.Searches.{link_at}
use Rattle.edits.specs.Calls.{side_of, joint_by, joint_at}
use Rattle.runs.specs.States.{NodeInTree, Spells}
use Rattle.lifting.specs.Ways.{lean_of}
use Rattle.lifting.proofs.Seeing.{node_reads}
use Rattle.lifting.proofs.Standing.{inside_beside, path_inside, top_in}
use Rattle.advances.specs.Advances.{Joined}
use Rattle.advances.proofs.Ends.{lowest_of, lowest_none}

abbrev pub other : Side → Side
other left = right
other right = left

module _ {K : Type 0} (cs : List (Cell K)) (pending : List ℕ) where
  -- a node that is spelled, with its two sides
  pub record Forks (s : Side) (n : ℕ) (x : Region K) (t u : Tree ℕ (Region K)) : Type 0 where
    pub content : Node K
    pub many : ℕ
    pub stands : NodeInTree cs pending n x many content
    pub towards : Spells cs pending (link_at (lean_of s) content) t
    pub beyond : Spells cs pending (link_at (lean_of (other s)) content) u

  forks : (link : ℕ) (s : Side) (n : ℕ) (t : Tree ℕ (Region K)) (x : Region K) (u : Tree ℕ (Region K)) → Spells cs pending link (beside s n t x u) → Forks s n x t u
  forks link left n t x u (v, e, ok, sl, sr) = record { content = v; many = suc (count t + count u); stands = ok; towards = sl; beyond = sr }
  forks link right n t x u (v, e, ok, sl, sr) = record { content = v; many = suc (count u + count t); stands = ok; towards = sr; beyond = sl }

  -- what is under a path is spelled from a link on
  under_spelled : (root : ℕ) (fs : List (Frame ℕ (Region K))) (t : Tree ℕ (Region K)) → Spells cs pending root (plug fs t) → (link : ℕ) × Spells cs pending link t
  under_spelled root [] t h = (root, h)
  under_spelled root (frame s m y u ∷ fs) t h =
      let g = under_spelled root fs (beside s m t y u) h in
      let f = forks g.0 s m t y u g.1 in
      (link_at (lean_of s) f.content, f.towards)

  pub lowest_forks :
      (root : ℕ) (s : Side) (m : ℕ) (y : Region K) (u : Tree ℕ (Region K)) (fs : List (Frame ℕ (Region K))) (t : Tree ℕ (Region K)) →
      Spells cs pending root (plug (frame s m y u ∷ fs) t) → Forks s m y t u
  lowest_forks root s m y u fs t h = let g = under_spelled root fs (beside s m t y u) h in forks g.0 s m t y u g.1

  -- the side of a node on which a link leads to n
  apart : (a b : ℕ) → (a ≡ b → ⊥) → eqb a b ≡ false
  apart a b ne = grind arith

  elsewhere :
      (link n : ℕ) (l : Tree ℕ (Region K)) (x : Region K) (r u : Tree ℕ (Region K)) → 1 ≤ n → Spells cs pending link u →
      inside (eqb n) (node n l x r) + inside (eqb n) u ≤ 1 → eqb link n ≡ false
  elsewhere link n l x r leaf some s few = apart link n (λ e. omega (arith, s))
  elsewhere link n l x r (node k a y b) some (v, e, ok, sl, sr) few =
      apart link n (λ f.
      let i = subst (λ j. In j (node k a y b)) (sym e ∙ f) (top_in k a y b) in
      omega (arith, top_in n l x r, i))

  side_told :
      (s : Side) (m : ℕ) (y : Region K) (n : ℕ) (l : Tree ℕ (Region K)) (x : Region K) (r u : Tree ℕ (Region K)) (f : Forks s m y (node n l x r) u) →
      inside (eqb n) (node n l x r) + inside (eqb n) u ≤ 1 → side_of n f.content ≡ lean_of s
  side_told left m y n l x r u f few = rw (eq-eqb f.content.left n f.towards.1)
  side_told right m y n l x r u f few =
      let p = f.towards.2.in_pool.past_seats in
      rw (elsewhere f.content.left n l x r u (omega arith) f.beyond few)

  joined_under :
      (s : Side) (m : ℕ) (y : Region K) (u : Tree ℕ (Region K)) (fs : List (Frame ℕ (Region K))) (n : ℕ) (v : Node K) → read_answer cs m ≡ Ok v →
      side_of n v ≡ lean_of s → joint_at cs (reverse (labels (frame s m y u ∷ fs))) n ≡ Ok (Some (record { above = record { number = m; node = v }; side = lean_of s }))
  unfolding joint_at
  joined_under s m y u fs n v f e = ap (joint_by cs n) (lowest_of m (labels fs)) ∙ rw (f, e)

  pub joint_found :
      (root : ℕ) (fs : List (Frame ℕ (Region K))) (n : ℕ) (l : Tree ℕ (Region K)) (x : Region K) (r : Tree ℕ (Region K)) →
      Spells cs pending root (plug fs (node n l x r)) → Distinct (plug fs (node n l x r)) → Joined cs fs n
  unfolding joint_at
  joint_found root [] n l x r h d = record { joint = None; is = ap (joint_by cs n) lowest_none; hangs = refl }
  joint_found root (frame s m y u ∷ fs) n l x r h d =
      let f = lowest_forks root s m y u fs (node n l x r) h in
      let t : Tree ℕ (Region K) = node n l x r in
      let e = side_told s m y n l x r u f (omega (arith, d n, path_inside (eqb n) fs (beside s m t y u), inside_beside (eqb n) s m t y u)) in
      record {
        joint = Some (record { above = record { number = m; node = f.content }; side = lean_of s });
        is = joined_under s m y u fs n f.content (node_reads cs m _ _ f.content f.stands) e;
        hangs = (f.content, f.stands.can_be_read, refl);
      }
