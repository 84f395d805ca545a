-- What cells spell stands for the tree of its kept nodes, where none of them is pending.
use Rattle.std.proofs.Common.{◌≡◌, ℕ, suc, ◌+◌, ◌≤◌, Bool, true, false, cond, ◌||◌, eqb, List, [], ◌∷◌, sym, refl, subst, arith}
use Rattle.std.proofs.lemmas.Bool.{eq-eqb}
use Rattle.store.specs.declared.node.Node.{Node}
use Rattle.store.specs.declared.node.Region.{Region}
use Rattle.store.specs.Cells.{Cell}
use Rattle.trees.specs.Trees.{Side, left, right, Tree, leaf, node, count, beside}
use Rattle.trees.specs.Paths.{times, inside, In, Distinct}
use Rattle.trees.specs.Edits.{Frame, frame, labels, plug, standing}
use Rattle.runs.specs.States.{member, NodeInTree, Spells}
use Rattle.lifting.specs.Theorems.{KeptTree, NonePending}

-- OFF THE PATH

pub inside_beside : {L R : Type 0} (such : L → Bool) (s : Side) (o : L) (t : Tree L R) (x : R) (u : Tree L R) → inside such (beside s o t x u) ≡ cond (such o) 1 0 + (inside such t + inside such u)
inside_beside such left o t x u = refl
inside_beside such right o t x u = omega arith

pub path_inside : {L R : Type 0} (such : L → Bool) (fs : List (Frame L R)) (t : Tree L R) → inside such t + times such (labels fs) ≤ inside such (plug fs t)
path_inside such [] t = omega arith
path_inside such (frame s o x u ∷ fs) t = omega (arith, path_inside such fs (beside s o t x u), inside_beside such s o t x u)

no_member : (q : ℕ) (ns : List ℕ) → times (eqb q) ns ≡ 0 → member q ns ≡ false
no_member q [] e = refl
no_member q (n ∷ ns) e = step (eqb q n) (times (eqb q) ns) (member q ns) e (no_member q ns)
  where
    step : (b : Bool) (m : ℕ) (c : Bool) → cond b 1 0 + m ≡ 0 → (m ≡ 0 → c ≡ false) → b || c ≡ false
    step true m c e f = absurd (omega arith)
    step false m c e f = f (omega arith)

pub off_path : {R : Type 0} (fs : List (Frame ℕ R)) (t : Tree ℕ R) → Distinct (plug fs t) → NonePending (labels fs) t
off_path fs t d q i = no_member q (labels fs) (omega (arith, path_inside (eqb q) fs t, d q))

-- KEPT

pub top_in : {R : Type 0} (n : ℕ) (l : Tree ℕ R) (x : R) (r : Tree ℕ R) → In n (node n l x r)
top_in n l x r = rw (eq-eqb n n refl) (omega arith)

module _ {K : Type 0} (cs : List (Cell K)) (pending : List ℕ) where
  kept_over :
      (link n : ℕ) (l : Tree ℕ (Region K)) (x : Region K) (r : Tree ℕ (Region K)) (v : Node K) → link ≡ n → member n pending ≡ false →
      NodeInTree cs pending n x (suc (count l + count r)) v → KeptTree cs v.left l → KeptTree cs v.right r → KeptTree cs link (node n l x r)
  kept_over link n l x r v e off ok kl kr =
      let many : suc (count l + count r) ≡ suc (count (standing l) + count (standing r)) = cc (kl.same_count, kr.same_count) in
      let node_ok : NodeInTree cs [] n x (suc (count l + count r)) v =
      record {
        in_pool = ok.in_pool;
        can_be_read = ok.can_be_read;
        mark_one = ok.mark_one;
        the_region = ok.the_region;
        waits_for_none = ok.waits_for_none;
        counted = λ i. ok.counted off;
      } in
      record {
        stands = (v, e, subst (λ m. NodeInTree cs [] n x m v) many node_ok, kl.stands, kr.stands);
        same_count = sym many;
        same_height = cc (kl.same_height, kr.same_height);
      }

  pub spelled_stands : (link : ℕ) (t : Tree ℕ (Region K)) → Spells cs pending link t → NonePending pending t → KeptTree cs link t
  spelled_stands link leaf s off = record { stands = s; same_count = refl; same_height = refl }
  spelled_stands link (node n l x r) (v, e, ok, sl, sr) off =
      kept_over link n l x r v e (off n (top_in n l x r)) ok (spelled_stands v.left l sl (λ q i. off q (omega arith)))
      (spelled_stands v.right r sr (λ q i. off q (omega arith)))
