-- What an advance takes apart are nodes of the store, and it wants at most three new nodes.
use Rattle.std.proofs.Common.{◌≡◌, ℕ, ◌+◌, false, List, [], ◌∷◌, length, Some, None, Ok, Option, Result, subst, arith}
use Rattle.store.specs.Nodes.{region_of}
use Rattle.store.specs.declared.fault.StoreFault.{StoreFault}
use Rattle.store.specs.Faults.{outside}
use Rattle.store.specs.Cells.{Cell}
use Rattle.drafts.specs.declared.link.Lean.{Lean}
use Rattle.drafts.specs.Grown.{kept, tree}
use Rattle.commits.specs.declared.writes.Joint.{Joint}
use Rattle.search.specs.Paths.{lowest}
use Rattle.commits.specs.Commits.{news, JointInside}
use Rattle.commits.proofs.Bounds.{bind_inv, read_from, seen_fair, SeenInside, Bound, rotated_bound}
use Rattle.edits.specs.Calls.{Sized, Turned, sized, side_of, joint_by, joint_at, turned_at}

module _ {K : Type 0} where
  -- a node that was sized, and its sides
  pub record SizedBound (N : ℕ) (w : Sized K) : Type 0 where
    pub node : outside w.node.number N ≡ false
    pub left : SeenInside N w.left
    pub right : SeenInside N w.right
    pub few : news (tree w.left) + news (tree w.right) ≡ 0

  sized_bound_as : (N : ℕ) (w w' : Sized K) → ◌≡◌ {A = Result (Sized K) StoreFault} (Ok w) (Ok w') → SizedBound N w' → SizedBound N w
  sized_bound_as N w w' e f = let q : w' ≡ w = cc in subst (SizedBound N) q f

  pub sized_bound : (cs : List (Cell K)) (n : ℕ) (w : Sized K) → Ok w ≡ sized cs n → SizedBound (length cs) w
  unfolding sized news
  sized_bound cs n w e =
      let i = bind_inv _ _ w e in
      let j = bind_inv _ _ w i.2 in
      let k = bind_inv _ _ w j.2 in
      let a = seen_fair cs (kept i.0.left) j.0 j.1 in
      let b = seen_fair cs (kept i.0.right) k.0 k.1 in
      sized_bound_as (length cs) w _ k.2
      (record { node = read_from cs n i.0 i.1; left = a.inside; right = b.inside; few = rw (a.same, b.same) })

  joint_by_inside : (cs : List (Cell K)) (n : ℕ) (o : Option ℕ) (j : Option (Joint K)) → Ok j ≡ joint_by cs n o → JointInside (length cs) j
  joint_by_inside cs n None j e = let q : None ≡ j = cc in subst (JointInside (length cs)) q tt
  joint_by_inside cs n (Some p) j e =
      let i = bind_inv _ _ j e in
      let q : Some (record { above = record { number = p; node = i.0 }; side = side_of n i.0 }) ≡ j = let f = i.2 in cc in
      subst (JointInside (length cs)) q (read_from cs p i.0 i.1)

  pub record TurnedBound (N : ℕ) (t : Turned K) : Type 0 where
    pub built : Bound N 3 t.built
    pub joint : JointInside N t.joint

  turned_bound_as : (N : ℕ) (w w' : Turned K) → ◌≡◌ {A = Result (Turned K) StoreFault} (Ok w) (Ok w') → TurnedBound N w' → TurnedBound N w
  turned_bound_as N w w' e f = let q : w' ≡ w = cc in subst (TurnedBound N) q f

  pub turned_bound : (cs : List (Cell K)) (path : List ℕ) (n : ℕ) (w : Sized K) (s : Lean) (t : Turned K) → Ok w ≡ sized cs n → Ok t ≡ turned_at cs path w s → TurnedBound (length cs) t
  unfolding turned_at joint_at
  turned_bound cs path n w s t e f =
      let b = sized_bound cs n w e in
      let i = bind_inv _ _ t f in
      let j = bind_inv _ _ t i.2 in
      let r = rotated_bound cs (w.node ∷ []) s (region_of w.node.node) w.left w.right i.0 i.1 (b.node, tt) b.left b.right in
      turned_bound_as (length cs) t _ j.2
      (record { built = record { gone = r.gone; few = omega (arith, r.few, b.few) }; joint = joint_by_inside cs w.node.number (lowest path) j.0 j.1 })
