-- Advance at the lowest pending node.
use Rattle.std.proofs.Common.{◌≡◌, ℕ, suc, ◌+◌, ◌<◌, ◌≤◌, List, [], ◌∷◌, reverse, Some, None, Ok, Err, Option, sym, refl, ap, ◌∙◌, subst, arith}
use Rattle.std.proofs.lemmas.Bool.{lt-ltb, le-ltb}
use Rattle.store.specs.declared.node.Node.{Node}
use Rattle.store.specs.declared.node.Region.{Region}
use Rattle.store.specs.Cells.{Cell, cell_at, readable, read_answer}
use Rattle.store.specs.Nodes.{region_of}
use Rattle.trees.specs.Trees.{Side, left, right, Tree, node, pick, beside, count}
use Rattle.trees.specs.Rotations.{Label, kept as stays, balance}
use Rattle.trees.specs.Paths.{Distinct}
use Rattle.trees.specs.Edits.{Frame, frame, labels, plug, standing}
use Rattle.drafts.specs.declared.link.Lean.{Lean}
use Rattle.drafts.specs.Grown.{kept, Seen, Built, seen, weight, heavy_side, rotated}
use Rattle.search.specs.Searches.{link_at}
use Rattle.search.specs.Frees.{free_count}
use Rattle.search.specs.Paths.{lowest}
use Rattle.commits.specs.declared.writes.Joint.{Joint}
use Rattle.edits.specs.declared.fault.Refusal.TheVariants.{Crowded}
use Rattle.edits.specs.Refusals.{refused_in}
use Rattle.edits.specs.Calls.{Sized, Turned, resized, sized_of, sized, joint_at, turned_at, turned_change, rotation, treated, lowest_treated, advanced}
use Rattle.runs.specs.States.{Spells}
use Rattle.lifting.specs.Lifts.{keeps, Stands, Shows, Treated}
use Rattle.lifting.specs.Theorems.{KeptTree}
use Rattle.lifting.specs.Ways.{lean_of}
use Rattle.lifting.proofs.Seeing.{sees, node_reads}
use Rattle.lifting.proofs.Standing.{off_path, spelled_stands}
use Rattle.lifting.proofs.Turning.{sum_size, count_pick, rotated_lifts}
use Rattle.advances.specs.Advances.{Joined, ByRule, Advances}
use Rattle.advances.proofs.Ends.{lowest_of, above_of}
use Rattle.advances.proofs.Hanging.{other, lowest_forks, joint_found}

module _ {K : Type 0} (cs : List (Cell K)) where
  -- what is told once the node is sized
  told_sized :
      (n : ℕ) (ns : List ℕ) (w : Sized K) → sized cs n ≡ Ok w → (root sessions : ℕ) (free : List ℕ) →
      advanced cs (reverse (n ∷ ns)) root sessions free ≡ treated cs (reverse ns) root sessions free w (heavy_side (weight w.left) (weight w.right))
  unfolding advanced refused_in
  told_sized n ns w e root sessions free =
      ap (λ p. lowest_treated cs p root sessions free (lowest (reverse (n ∷ ns)))) (above_of n ns)
      ∙ ap (lowest_treated cs (reverse ns) root sessions free) (lowest_of n ns)
      ∙ rw e

  -- a rotation and its link
  told_turned :
      (path : List ℕ) (w : Sized K) (s : Lean) (b : Built K) (j : Option (Joint K)) →
      rotated cs (w.node ∷ []) s (region_of w.node.node) w.left w.right ≡ Ok b → joint_at cs path w.node.number ≡ Ok j →
      turned_at cs path w s ≡ Ok (record { built = b; joint = j })
  unfolding turned_at
  told_turned path w s b j e f = rw (e, f)

  told_crowded :
      (path : List ℕ) (root sessions : ℕ) (free : List ℕ) (w : Sized K) (s : Lean) → free_count cs < 3 → rotation cs path root sessions free w s ≡ Err Crowded
  unfolding rotation
  told_crowded path root sessions free w s h = rw (lt-ltb (free_count cs) 3 h)

  told_rotated :
      (path : List ℕ) (root sessions : ℕ) (free : List ℕ) (w : Sized K) (s : Lean) (t : Turned K) → turned_at cs path w s ≡ Ok t → 3 ≤ free_count cs →
      rotation cs path root sessions free w s ≡ Ok (turned_change path root sessions free t)
  unfolding rotation refused_in
  told_rotated path root sessions free w s t e h = rw (le-ltb (free_count cs) 3 h, e)

  -- the sides of a node as its left and its right one
  left_side :
      (s : Side) (v : Node K) (a b : Tree Label (Region K)) → Stands cs (kept (link_at (lean_of s) v)) a → Stands cs (kept (link_at (lean_of (other s)) v)) b →
      Stands cs (kept v.left) (pick s a b)
  left_side left v a b sa sb = sa
  left_side right v a b sa sb = sb

  right_side :
      (s : Side) (v : Node K) (a b : Tree Label (Region K)) → Stands cs (kept (link_at (lean_of s) v)) a → Stands cs (kept (link_at (lean_of (other s)) v)) b →
      Stands cs (kept v.right) (pick s b a)
  right_side left v a b sa sb = sb
  right_side right v a b sa sb = sa

  -- the node with its sides as they were seen
  sized_well : (n : ℕ) (v : Node K) (l r : Seen K) → read_answer cs n ≡ Ok v → seen cs (kept v.left) ≡ Ok l → seen cs (kept v.right) ≡ Ok r → sized cs n ≡ Ok (sized_of n v l r)
  unfolding sized
  sized_well n v l r f a b = rw (f, a, b)

  -- the rule at a node that was sized
  by_rule :
      (fs : List (Frame ℕ (Region K))) (n : ℕ) (v : Node K) (l r : Seen K) (tl tr : Tree Label (Region K)) (j : Option (Joint K)) → Shows cs l tl → Shows cs r tr →
      count tl + count tr < 65535 → sized cs n ≡ Ok (sized_of n v l r) → joint_at cs (reverse (labels fs)) n ≡ Ok j →
      ByRule cs (reverse (labels fs)) n tl (region_of v) tr (balance (stays n) tl (region_of v) tr) (sized_of n v l r) j
      (λ root sessions ns. advanced cs (reverse (n ∷ labels fs)) root sessions ns) (heavy_side (weight l) (weight r))
  by_rule fs n v l r tl tr j sl sr few is joint =
      by_side (heavy_side (weight l) (weight r)) (λ root sessions ns. told_sized n (labels fs) w is root sessions ns)
      (rotated_lifts cs before (w.node ∷ []) (stays n) (region_of v) l r tl tr sl sr few (λ i. omega arith))
    where
      w : Sized K
      w = sized_of n v l r

      path : List ℕ
      path = reverse (labels fs)

      before : ℕ → ℕ
      before i = keeps i (node (stays n) tl (region_of v) tr)

      by_side :
          (s : Option Lean) →
          ((root sessions : ℕ) (ns : List ℕ) → advanced cs (reverse (n ∷ labels fs)) root sessions ns ≡ treated cs path root sessions ns w s) →
          Treated cs before (w.node ∷ []) (stays n) (region_of v) l r tl tr (balance (stays n) tl (region_of v) tr) s →
          ByRule cs path n tl (region_of v) tr (balance (stays n) tl (region_of v) tr) w j
          (λ root sessions ns. advanced cs (reverse (n ∷ labels fs)) root sessions ns) s
      by_side None told h = (h, told)
      by_side (Some s) told h =
          let turned = told_turned path w s h.made j h.is joint in (
            h,
            λ root sessions ns few. told root sessions ns ∙ told_crowded path root sessions ns w s few,
            λ root sessions ns many. told root sessions ns ∙ told_rotated path root sessions ns w s _ turned many,
          )

  pub advances_at :
      (s : Side) (n : ℕ) (u t : Tree ℕ (Region K)) (fs : List (Frame ℕ (Region K))) (v : Node K) → cell_at cs n ≡ readable v → read_answer cs n ≡ Ok v →
      KeptTree cs (link_at (lean_of s) v) t → KeptTree cs (link_at (lean_of (other s)) v) u → count t + count u < 65535 → Joined cs fs n →
      Advances cs s n (region_of v) u t fs
  advances_at s n u t fs v c f kt ku few joined =
      let a : Tree Label (Region K) = pick s (standing t) (standing u) in
      let b : Tree Label (Region K) = pick s (standing u) (standing t) in
      let l = sees cs (kept v.left) a (left_side s v (standing t) (standing u) kt.stands ku.stands) in
      let r = sees cs (kept v.right) b (right_side s v (standing t) (standing u) kt.stands ku.stands) in
      let same : count a + count b ≡ count t + count u = omega (arith, count_pick s (standing t) (standing u), kt.same_count, ku.same_count) in
      let is = sized_well n v l.side r.side f l.is r.is in
      record {
        content = v;
        can_be_read = c;
        the_region = refl;
        with_size = sized_of n v l.side r.side;
        is = is;
        written =
            ap (λ m. record { number = n; node = resized m v })
            (sum_size (weight l.side) (weight r.side) (count a) (count b) l.shows.weighs r.shows.weighs (omega arith) ∙ ap suc same);
        joined = joined;
        rule = by_rule fs n v l.side r.side a b joined.joint l.shows r.shows (omega arith) is joined.is;
      }

  beside_other : (s : Side) (n : ℕ) (t : Tree ℕ (Region K)) (x : Region K) (u : Tree ℕ (Region K)) → beside (other s) n u x t ≡ beside s n t x u
  beside_other left n t x u = refl
  beside_other right n t x u = refl

  beside_node : (s : Side) (n : ℕ) (t : Tree ℕ (Region K)) (x : Region K) (u : Tree ℕ (Region K)) → beside s n t x u ≡ node n (pick s t u) x (pick s u t)
  beside_node left n t x u = refl
  beside_node right n t x u = refl

  pub advance_lifts :
      (root : ℕ) (s : Side) (n : ℕ) (x : Region K) (u t : Tree ℕ (Region K)) (fs : List (Frame ℕ (Region K))) →
      Spells cs (n ∷ labels fs) root (plug (frame s n x u ∷ fs) t) → Distinct (plug (frame s n x u ∷ fs) t) → count t + count u < 65535 →
      Advances cs s n x u t fs
  advance_lifts root s n x u t fs h d few =
      let pending : List ℕ = n ∷ labels fs in
      let f = lowest_forks cs pending root s n x u fs t h in
      let v = f.content in
      let e = beside_other s n t x u in
      let g = beside_node s n t x u in
      let kt = spelled_stands cs pending (link_at (lean_of s) v) t f.towards (off_path (frame s n x u ∷ fs) t d) in
      let ku =
      spelled_stands cs pending (link_at (lean_of (other s)) v) u f.beyond
      (off_path (frame (other s) n x t ∷ fs) u (subst (λ a. Distinct (plug fs a)) (sym e) d)) in
      let joined =
      joint_found cs pending root fs n (pick s t u) x (pick s u t) (subst (λ a. Spells cs pending root (plug fs a)) g h)
      (subst (λ a. Distinct (plug fs a)) g d) in
      subst (λ y. Advances cs s n y u t fs) f.stands.the_region
      (advances_at s n u t fs v f.stands.can_be_read (node_reads cs n _ _ v f.stands) kt ku few joined)
