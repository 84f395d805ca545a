-- The search in the memory goes down the tree that it spells.
use Rattle.std.proofs.Common.{◌≡◌, ℕ, zero, suc, ◌≤◌, Bool, false, eqb, List, [], ◌∷◌, reverse, Some, None, Ok, Option, sym, refl, ap, ◌∙◌, subst, arith}
use mathlib.Core.List.{reverse_aux}
use Rattle.store.specs.declared.node.Node.{Node}
use Rattle.store.specs.declared.node.Region.{Region}
use Rattle.store.specs.Cells.{Cell, read_answer}
use Rattle.store.specs.Nodes.{region_of}
use Rattle.trees.specs.Trees.{Side, left, right, Turn, to_left, here, to_right, at_turn, Tree, leaf, node, inorder, height}
use Rattle.trees.specs.Edits.{Frame, frame, labels, Place, place, descend}
use Rattle.trees.proofs.Risings.{All, all_mid}
use Rattle.drafts.specs.declared.link.Lean.{Lean}
use Rattle.drafts.specs.declared.link.Lean.TheVariants.{Right, Left}
use Rattle.search.specs.declared.search.Sought.{Sought}
use Rattle.search.specs.Searches.{Way, nowhere, side_for, link_at, at_node, descended}
use Rattle.runs.specs.States.{Spells}
use Rattle.lifting.specs.Ways.{top_number, top_link, LeftBy, GoesTo}
use Rattle.lifting.proofs.Seeing.{node_reads, node_some}

-- the turn of a search that leaves a node by a side, or ends there
abbrev pub turn_by : Option Lean → Turn
turn_by None = here
turn_by (Some Left) = to_left
turn_by (Some Right) = to_right

module _ {K : Type 0} (less : K → K → Bool) (x : Sought K) (cs : List (Cell K)) (pending : List ℕ) (turn : Region K → Turn) (Fine : Region K → Type 0)
    (agree : (v : Node K) → Fine (region_of v) → turn (region_of v) ≡ turn_by (side_for less x v)) where
  record Down (k : ℕ) (fs : List (Frame ℕ (Region K))) (link : ℕ) (p : Place ℕ (Region K)) : Type 0 where
    pub way : Way
    pub is : descended less x cs k link ≡ Ok way
    pub passed : reverse_aux (labels fs) way.passed ≡ reverse (labels p.above)
    pub ends : way.end ≡ top_number p.under
    pub left_by : LeftBy less x cs p.above
    pub spelled : Spells cs pending (top_link p.under) p.under

  at_none : (k link : ℕ) → link ≡ 0 → descended less x cs k link ≡ Ok nowhere
  unfolding descended
  at_none zero link e = refl
  at_none (suc k) link e = rw e

  at_some : (k n : ℕ) (v : Node K) → eqb n 0 ≡ false → read_answer cs n ≡ Ok v → descended less x cs (suc k) n ≡ at_node (descended less x cs k) n v (side_for less x v)
  unfolding descended
  at_some k n v e f = rw (e, f)

  -- one node further down
  onward :
      (k : ℕ) (fs : List (Frame ℕ (Region K))) (n : ℕ) (v : Node K) (s : Lean) (c : Side) (y : Region K) (u : Tree ℕ (Region K)) (p : Place ℕ (Region K)) →
      eqb n 0 ≡ false → read_answer cs n ≡ Ok v → side_for less x v ≡ Some s → Down k (frame c n y u ∷ fs) (link_at s v) p → Down (suc k) fs n p
  onward k fs n v s c y u p some f e d = record {
    way = record { passed = n ∷ d.way.passed; end = d.way.end };
    is = at_some k n v some f ∙ rw (e, d.is);
    passed = d.passed;
    ends = d.ends;
    left_by = d.left_by;
    spelled = d.spelled;
  }

  -- the way from a node on, once the ways from its sides on are known
  at_top :
      (k : ℕ) (fs : List (Frame ℕ (Region K))) (n : ℕ) (l : Tree ℕ (Region K)) (y : Region K) (r : Tree ℕ (Region K)) (v : Node K) → eqb n 0 ≡ false →
      read_answer cs n ≡ Ok v → turn y ≡ turn_by (side_for less x v) → LeftBy less x cs fs → Spells cs pending n (node n l y r) →
      (LeftBy less x cs (frame left n y r ∷ fs) → Down k (frame left n y r ∷ fs) v.left (descend turn (frame left n y r ∷ fs) l)) →
      (LeftBy less x cs (frame right n y l ∷ fs) → Down k (frame right n y l ∷ fs) v.right (descend turn (frame right n y l ∷ fs) r)) →
      Down (suc k) fs n (descend turn fs (node n l y r))
  at_top k fs n l y r v some f same by spelled on-left on-right =
      subst (λ d. Down (suc k) fs n (at_turn d (descend turn (frame left n y r ∷ fs) l) (place fs (node n l y r)) (descend turn (frame right n y l ∷ fs) r)))
      (sym same) (by_side (side_for less x v) refl)
    where
      by_side :
          (s : Option Lean) → side_for less x v ≡ s →
          Down (suc k) fs n
          (at_turn (turn_by s) (descend turn (frame left n y r ∷ fs) l) (place fs (node n l y r)) (descend turn (frame right n y l ∷ fs) r))
      by_side None e = record {
        way = record { passed = []; end = Some n };
        is = at_some k n v some f ∙ ap (at_node (descended less x cs k) n v) e;
        passed = refl;
        ends = refl;
        left_by = by;
        spelled = spelled;
      }
      by_side (Some Left) e = onward k fs n v Left left y r _ some f e (on-left ((v, f, e), by))
      by_side (Some Right) e = onward k fs n v Right right y l _ some f e (on-right ((v, f, e), by))

  down :
      (k : ℕ) (fs : List (Frame ℕ (Region K))) (link : ℕ) (t : Tree ℕ (Region K)) → Spells cs pending link t → All Fine (inorder t) → height t ≤ k →
      LeftBy less x cs fs → Down k fs link (descend turn fs t)
  down k fs link leaf s a low by =
      record { way = nowhere; is = at_none k link s; passed = refl; ends = refl; left_by = by; spelled = refl }
  down zero fs link (node n l y r) s a low by = absurd (omega arith)
  down (suc k) fs link (node n l y r) (v, e, ok, sl, sr) a low by =
      let m = all_mid Fine (inorder l) y (inorder r) a in
      let same : turn y ≡ turn_by (side_for less x v) =
      subst (λ z. turn z ≡ turn_by (side_for less x v)) ok.the_region (agree v (subst Fine (sym ok.the_region) m.1)) in
      subst (λ i. Down (suc k) fs i (descend turn fs (node n l y r))) (sym e)
      (at_top k fs n l y r v (node_some cs n _ _ v ok) (node_reads cs n _ _ v ok) same by (v, refl, ok, sl, sr)
      (λ b. down k (frame left n y r ∷ fs) v.left l sl m.0 (omega arith) b) (λ b. down k (frame right n y l ∷ fs) v.right r sr m.2 (omega arith) b))

  -- THE WAY from a link, where the search turns in the memory as in the tree
  pub goes_to :
      (root : ℕ) (t : Tree ℕ (Region K)) → Spells cs pending root t → All Fine (inorder t) → height t ≤ 27 →
      GoesTo less x cs pending root (descend turn [] t)
  goes_to root t s a low =
      let d = down 27 [] root t s a low tt in
      record { way = d.way; is = d.is; passed = d.passed; ends = d.ends; left_by = d.left_by; spelled = d.spelled }
