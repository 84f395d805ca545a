-- Walks through memory.
use Rattle.std.proofs.Common.{◌≡◌, ℕ, ◌≤◌, List, [], ◌∷◌, ◌++◌, Some, None, Option, sym, refl, ap, ◌∙◌, subst, arith}
use Rattle.store.specs.declared.node.Node.{Node}
use Rattle.store.specs.declared.node.Region.{Region}
use Rattle.store.specs.Cells.{readable, cell_at}
use Rattle.store.specs.Nodes.{region_of}
use Rattle.trees.specs.Trees.{Turn, to_left, here, to_right, at_turn, Tree, leaf, node, path, found}
use Rattle.trees.specs.Paths.{On}
use Rattle.trees.proofs.Ancestors.{on_inside}
use Rattle.runs.specs.States.{Cells, Spells}
use Rattle.runs.specs.Effects.{Onward}
use Rattle.lookups.specs.Ways.{Walk, no_node, finds, onward, LeadsAlike, KeptNode}
use Rattle.lookups.specs.Theorems.{SpelledWalk}
use Rattle.lookups.proofs.Numbers.{on_first}

not_empty : (front : List ℕ) (b : ℕ) (rest : List ℕ) → [] ≡ front ++ (b ∷ rest) → ⊥
not_empty [] b rest e = let z : ◌≡◌ {A = ℕ} 0 1 = cc in omega arith
not_empty (a ∷ front) b rest e = let z : ◌≡◌ {A = ℕ} 0 1 = cc in omega arith

module _ {K : Type 0} (cs : Cells K) (turn : Region K → Turn) where
  -- the walk goes on by the turn at its first node
  walk_by :
      (n : ℕ) (v : Node K) (l r : Tree ℕ (Region K)) (d : Turn) → 1 ≤ n → cell_at cs n ≡ readable v → turn (region_of v) ≡ d →
      Walk cs turn (found turn l) v.left (path turn l) → Walk cs turn (found turn r) v.right (path turn r) →
      Walk cs turn (at_turn d (found turn l) (Some (region_of v)) (found turn r)) n (n ∷ at_turn d (path turn l) [] (path turn r))
  walk_by n v l r to_left one c e a b = onward n v.left v (path turn l) one c (rw e refl) a
  walk_by n v l r here one c e a b = finds n v one c e refl
  walk_by n v l r to_right one c e a b = onward n v.right v (path turn r) one c (rw e refl) b

  pub spelled_walk : (pending : List ℕ) (link : ℕ) (t : Tree ℕ (Region K)) → Spells cs pending link t → Walk cs turn (found turn t) link (path turn t)
  spelled_walk pending link leaf s = subst (λ (p : ℕ). Walk cs turn None p []) (sym s) (no_node refl)
  spelled_walk pending link (node n l x r) s =
      let i = s.2.in_pool.past_seats in
      let e = s.2.the_region in
      let w = walk_by n s.0 l r (turn (region_of s.0)) (omega arith) s.2.can_be_read refl
      (spelled_walk pending s.0.left l s.3) (spelled_walk pending s.0.right r s.4) in
      subst (λ (p : ℕ). Walk cs turn (found turn (node n l x r)) p (path turn (node n l x r))) (sym s.1)
      (subst (λ (y : Region K). Walk cs turn (at_turn (turn y) (found turn l) (Some y) (found turn r)) n (n ∷ at_turn (turn y) (path turn l) [] (path turn r))) e w)

  -- it begins at its first node
  walk_start : (out : Option (Region K)) (p b : ℕ) (ns rest : List ℕ) → Walk cs turn out p ns → ns ≡ b ∷ rest → p ≡ b
  walk_start out p b ns rest (no_node e) h = let z : ◌≡◌ {A = ℕ} 0 1 = cc in absurd (omega arith)
  walk_start out p b ns rest (finds _ v i c d e) h = cc
  walk_start out p b ns rest (onward _ q v ms i c d w) h = cc

  -- from a node of it on, it is the rest of it
  pub walk_from :
      (out : Option (Region K)) (p b : ℕ) (ns front rest : List ℕ) → Walk cs turn out p ns → ns ≡ front ++ (b ∷ rest) →
      Walk cs turn out b (b ∷ rest)
  walk_from out p b ns [] rest w e =
      subst (λ (m : ℕ). Walk cs turn out m (b ∷ rest)) (walk_start out p b ns rest w e) (subst (Walk cs turn out p) e w)
  walk_from out p b ns (a ∷ front) rest (no_node d) e = let z : ◌≡◌ {A = ℕ} 0 1 = cc in absurd (omega arith)
  walk_from out p b ns (a ∷ front) rest (finds _ v i c d f) e = absurd (not_empty front b rest (cc))
  walk_from out p b ns (a ∷ front) rest (onward _ q v ms i c d w) e = walk_from out q b ms front rest w (cc)

-- A WALK AFTER A CHANGE OF MEMORY

module _ {K : Type 0} (cs ds : Cells K) (turn : Region K → Turn) where
  onward_alike : (d : Turn) (v w : Node K) (q : ℕ) → LeadsAlike v w → Onward d v q → Onward d w q
  onward_alike to_left v w q a e = e ∙ sym a.same_left
  onward_alike here v w q a e = e
  onward_alike to_right v w q a e = e ∙ sym a.same_right

  onward_kept : (v w : Node K) (q : ℕ) → LeadsAlike v w → Onward (turn (region_of v)) v q → Onward (turn (region_of w)) w q
  onward_kept v w q a o = subst (λ (x : Region K). Onward (turn x) w q) (sym a.same_region) (onward_alike (turn (region_of v)) v w q a o)

  -- one whose nodes are kept is the same
  pub walk_kept : (out : Option (Region K)) (p : ℕ) (ns : List ℕ) → Walk cs turn out p ns → ((q : ℕ) → On q ns → KeptNode cs ds q) → Walk ds turn out p ns
  walk_kept out p ns (no_node e) h = no_node e
  walk_kept out p ns (finds _ v i c d e) h =
      let k = h p (on_first p []) v c in
      let a = k.2.same_region in
      finds p k.0 i k.1 (ap turn a ∙ d) (e ∙ ap (λ (x : Region K). Some x) (sym a))
  walk_kept out p ns (onward _ q v ms i c d w) h =
      let k = h p (on_first p ms) v c in
      onward p q k.0 ms i k.1 (onward_kept v k.0 q k.2 d) (walk_kept out q ms w (λ j o. h j (omega arith)))

  -- one whose nodes are kept until it comes to b goes on as a walk from b does
  pub walk_join :
      (out out' : Option (Region K)) (p b : ℕ) (ns front rest rest' : List ℕ) → Walk cs turn out p ns → ns ≡ front ++ (b ∷ rest) →
      ((q : ℕ) → On q front → KeptNode cs ds q) → Walk ds turn out' b (b ∷ rest') → Walk ds turn out' p (front ++ (b ∷ rest'))
  walk_join out out' p b ns [] rest rest' w e h w' =
      subst (λ (m : ℕ). Walk ds turn out' m (b ∷ rest')) (sym (walk_start cs turn out p b ns rest w e)) w'
  walk_join out out' p b ns (a ∷ front) rest rest' (no_node d) e h w' = let z : ◌≡◌ {A = ℕ} 0 1 = cc in absurd (omega arith)
  walk_join out out' p b ns (a ∷ front) rest rest' (finds _ v i c d f) e h w' = absurd (not_empty front b rest (cc))
  walk_join out out' p b ns (a ∷ front) rest rest' (onward _ q v ms i c d w) e h w' =
      let pa : p ≡ a = cc in
      let k = h p (subst (λ (m : ℕ). On p (m ∷ front)) pa (on_first p front)) v c in
      subst (λ (m : ℕ). Walk ds turn out' p (m ∷ (front ++ (b ∷ rest')))) pa
      (onward p q k.0 (front ++ (b ∷ rest')) i k.1 (onward_kept v k.0 q k.2 d)
      (walk_join out out' q b ms front rest rest' w (cc) (λ j o. h j (omega arith)) w'))

module _ {K : Type 0} where
  pub walks_down : SpelledWalk K
  walks_down cs pending link t turn s =
      let w = spelled_walk cs turn pending link t s in
      record {
        from_top = w;
        from_node = λ b front rest e. walk_from cs turn (found turn t) link b (path turn t) front rest w e;
        no_node_twice = λ d q. omega (arith, on_inside turn q t, d q);
      }
