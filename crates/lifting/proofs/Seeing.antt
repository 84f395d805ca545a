-- A look at a tree that stands: the top as it is, its weight and its parts.
use Rattle.std.proofs.Common.{◌≡◌, ℕ, ◌<◌, ◌≤◌, false, eqb, List, [], ◌∷◌, length, Ok, sym, refl, ap, ◌∙◌, subst, append-nil, add-one, arith}
use Rattle.store.specs.declared.node.Node.{Node}
use Rattle.store.specs.declared.node.Region.{Region}
use Rattle.store.specs.Cells.{Cell, cell_at, readable, read_answer}
use Rattle.store.specs.Nodes.{region_of}
use Rattle.store.specs.Faults.{outside}
use Rattle.store.proofs.Uses.{read_of}
use Rattle.trees.specs.Trees.{Tree, leaf, node}
use Rattle.trees.specs.Rotations.{Label, kept as stays, new}
use Rattle.drafts.specs.declared.link.Numbered.{Numbered}
use Rattle.drafts.specs.Grown.{Grown, kept, built, nothing, stored, fresh, seen, tree, weight, opened, without}
use Rattle.runs.specs.States.{NodeInTree}
use Rattle.lifting.specs.Lifts.{Stands}
use Rattle.lifting.specs.Theorems.{SeenWell, LinkTo, ReadParts}

pub inside_pool : (n N : ℕ) → 32 < n → n ≤ N → outside n N ≡ false
inside_pool n N a b = grind arith

module _ {K : Type 0} (cs : List (Cell K)) where
  -- a node of the tree can be read, and no link to it is 0
  pub node_reads : {pending : List ℕ} (n : ℕ) (x : Region K) (many : ℕ) (v : Node K) → NodeInTree cs pending n x many v → read_answer cs n ≡ Ok v
  node_reads n x many v ok = read_of cs n v (inside_pool n (length cs) ok.in_pool.past_seats ok.in_pool.inside) ok.can_be_read

  pub node_some : {pending : List ℕ} (n : ℕ) (x : Region K) (many : ℕ) (v : Node K) → NodeInTree cs pending n x many v → eqb n 0 ≡ false
  node_some n x many v ok = let p = ok.in_pool.past_seats in grind arith

  pub sees : (g : Grown K) (t : Tree Label (Region K)) → Stands cs g t → SeenWell cs g t
  unfolding seen tree weight opened without
  sees (kept n) leaf s = record {
    side = nothing;
    is = rw s;
    same = ap kept (sym s);
    shows = record { stands = refl; weighs = refl; opens = tt; leaving = []; taken = λ gone. sym (append-nil gone); as_read = tt; numbers = λ k. refl };
  }
  sees (kept n) (node (stays m) l x r) (v, e, ok, sl, sr) = record {
    side = stored (record { number = m; node = v });
    is = rw (e, node_some m _ _ v ok, node_reads m _ _ v ok);
    same = ap kept (sym e);
    shows = record {
      stands = (v, refl, ok, sl, sr);
      weighs = rw (ok.counted refl, add-one);
      opens = (ok.the_region, sl, sr);
      leaving = record { number = m; node = v } ∷ [];
      taken = λ gone. refl;
      as_read = (ok.can_be_read, tt);
      numbers = λ k. omega arith;
    };
  }
  sees (kept n) (node new l x r) i = absurd i
  sees (built s y g h) leaf i = absurd i
  sees (built s y g h) (node (stays m) l x r) i = absurd i
  sees (built s y g h) (node new l x r) (e, f, sg, sh) = record {
    side = fresh s y g h;
    is = refl;
    same = refl;
    shows = record {
      stands = (e, f, sg, sh);
      weighs = rw (e, add-one);
      opens = (f, sg, sh);
      leaving = [];
      taken = λ gone. sym (append-nil gone);
      as_read = tt;
      numbers = λ k. refl;
    };
  }

  -- A NODE AS IT WAS READ

  pub link_to : (n : ℕ) (t : Tree Label (Region K)) → Stands cs (kept n) t → LinkTo t n
  link_to n leaf s = s
  link_to n (node (stays m) l x r) (v, e, ok, sl, sr) = subst (λ i. 32 < i) (sym e) ok.in_pool.past_seats
  link_to n (node new l x r) s = absurd s

  read_same : (n : ℕ) (v w : Node K) → cell_at cs n ≡ readable v → cell_at cs n ≡ readable w → w ≡ v
  read_same n v w e f = cc

  pub read_parts :
      (p : Numbered K) (o : Label) (l : Tree Label (Region K)) (x : Region K) (r : Tree Label (Region K)) → Stands cs (kept p.number) (node o l x r) →
      cell_at cs p.number ≡ readable p.node → ReadParts cs p o l x r
  read_parts p new l x r s h = absurd s
  read_parts p (stays m) l x r (v, e, ok, sl, sr) h =
      let f : p.node ≡ v = read_same m v p.node ok.can_be_read (subst (λ i. cell_at cs i ≡ readable p.node) e h) in
      let a = subst (λ u. Stands cs (kept u.left) l) (sym f) sl in
      let b = subst (λ u. Stands cs (kept u.right) r) (sym f) sr in
      record {
        region = ap region_of f ∙ ok.the_region;
        left = a;
        right = b;
        left_link = link_to p.node.left l a;
        right_link = link_to p.node.right r b;
        counted = λ j. rw e (omega arith);
      }
