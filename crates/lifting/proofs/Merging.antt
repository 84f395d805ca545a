-- Drop and split at a node of the tree.
use Rattle.std.proofs.Common.{◌≡◌, ℕ, suc, ◌+◌, ◌<◌, ◌≤◌, false, eqb, List, [], ◌∷◌, ◌++◌, Some, None, Result, sym, refl, subst, append-nil, arith}
use Rattle.store.specs.declared.node.Region.{Region}
use Rattle.store.specs.declared.fault.StoreFault.{StoreFault}
use Rattle.store.specs.Cells.{Cell, cell_at, readable}
use Rattle.store.specs.Nodes.{region_of, link_number}
use Rattle.trees.specs.Trees.{Tree, leaf, node, count, height}
use Rattle.trees.specs.Rotations.{Label, kept as stays, new, balance}
use Rattle.trees.specs.Edits.{least, rebuilt, with_least, dropped}
use Rattle.drafts.specs.declared.link.Numbered.{Numbered}
use Rattle.drafts.specs.Grown.{Grown, kept, Built, bind, seen, tree, balanced}
use Rattle.walks.specs.Walks.{sprout, merged, grown_by, parted}
use Rattle.lifting.specs.Lifts.{keeps, leaves, AllRead, Stands, Lifted, edge_length, end_of, BothSides}
use Rattle.lifting.proofs.Seeing.{sees, node_some, read_parts}
use Rattle.lifting.proofs.Turning.{after, left_before, balanced_lifts}
use Rattle.lifting.proofs.Walking.{Grafted, sprout_shows, rebuilt_count, walk_lifts, none_at}

edge_low : {L R : Type 0} (t : Tree L R) → edge_length t ≤ height t
edge_low leaf = omega arith
edge_low (node o l x r) = omega (arith, edge_low l)

module _ {K : Type 0} (cs : List (Cell K)) where
  abbrev over_left : Numbered K → List (Numbered K) → Grown K → Region K → Result (Built K) StoreFault
  over_left p gone g x = bind (seen cs (kept p.node.left)) (λ a. bind (seen cs g) (λ b. balanced cs gone x a b))

  -- the last step of both: a side that the walk built beside the left side, with the node at hand among what leaves
  last_step :
      (before : ℕ → ℕ) (p : Numbered K) (more gone : List (Numbered K)) (g : Grown K) (x : Region K) (l t : Tree Label (Region K)) →
      cell_at cs p.number ≡ readable p.node → Stands cs (kept p.node.left) l → Stands cs g t → gone ≡ (p ∷ []) ++ more → AllRead cs more →
      count l + count t < 65535 → ((j : ℕ) → leaves j gone + (keeps j l + keeps j t) ≡ before j) →
      Lifted cs before [] (over_left p gone g x) (balance new l x t)
  last_step before p more gone g x l t h sl st e as_read few same =
      let a = sees cs (kept p.node.left) l sl in
      let b = sees cs g t st in
      left_before cs before [] (p ∷ more) gone _ _ e (h, as_read)
      (after cs _ a.side _ a.is (after cs _ b.side _ b.is (balanced_lifts cs before gone x a.side b.side l t a.shows b.shows few same)))

  merged_at :
      (before : ℕ → ℕ) (p : Numbered K) (l : Tree Label (Region K)) (i : ℕ) (c : Tree Label (Region K)) (z : Region K) (d : Tree Label (Region K)) →
      cell_at cs p.number ≡ readable p.node → Stands cs (kept p.node.left) l → Stands cs (kept p.node.right) (node (stays i) c z d) →
      edge_length c ≤ 26 → count l + (count c + count d) < 65533 →
      ((j : ℕ) → leaves j (p ∷ []) + (keeps j l + keeps j (node (stays i) c z d)) ≡ before j) →
      Lifted cs before [] (merged cs p) (balance new l (least c z) (rebuilt (end_of None) c z d))
  unfolding merged
  merged_at before p l i c z d h sl sr short few same =
      let w = walk_lifts cs 26 None (p ∷ []) p.node.right i c z d sr short (omega arith) in
      let t : Tree Label (Region K) = rebuilt (end_of None) c z d in
      after cs _ w.made _ w.is (after cs _ w.last _ w.reads
      (subst (λ x. Lifted cs before [] (over_left p w.made.gone w.made.side (region_of w.last)) (balance new l x t)) w.holds
      (last_step before p w.more w.made.gone w.made.side (region_of w.last) l t h sl w.stands w.left w.as_read
      (omega (arith, rebuilt_count cs None c z d)) (λ j. omega (arith, same j, w.same j)))))

  pub merged_lifts :
      (p : Numbered K) (t : Tree Label (Region K)) → Stands cs (kept p.number) t → cell_at cs p.number ≡ readable p.node → BothSides t →
      height t ≤ 27 → count t < 65535 → Lifted cs (λ j. keeps j t) [] (merged cs p) (dropped t)
  merged_lifts p leaf s h two low few = absurd two
  merged_lifts p (node o leaf x r) s h two low few = absurd two
  merged_lifts p (node o (node q a y b) x leaf) s h two low few = absurd two
  merged_lifts p (node o (node q a y b) x (node new c z d)) s h two low few = absurd (read_parts cs p o _ x _ s h).right
  merged_lifts p (node o (node q a y b) x (node (stays i) c z d)) s h two low few =
      let parts = read_parts cs p o (node q a y b) x (node (stays i) c z d) s h in
      merged_at _ p (node q a y b) i c z d h parts.left parts.right (omega (arith, edge_low c)) (omega arith) parts.counted

  -- a side with a region added as its least
  grown_lifts :
      (gone : List (Numbered K)) (z : Region K) (n : ℕ) (r : Tree Label (Region K)) → Stands cs (kept n) r → edge_length r ≤ 27 → count r < 65535 →
      Grafted cs (λ j. leaves j gone + keeps j r) gone (grown_by cs gone z (link_number n)) (with_least z r)
  grown_lifts gone z n leaf s short few = record {
    made = record { side = tree (sprout z); gone = gone };
    is = rw (none_at n s);
    stands = (sprout_shows cs z).stands;
    more = [];
    left = sym (append-nil gone);
    as_read = tt;
    same = λ j. refl;
  }
  grown_lifts gone z n (node new a x b) s short few = absurd s
  grown_lifts gone z n (node (stays m) a x b) (v, e, ok, sa, sb) short few =
      let w = walk_lifts cs 26 (Some z) gone n m a x b (v, e, ok, sa, sb) (omega arith) (omega arith) in
      let some : eqb n 0 ≡ false = subst (λ i. eqb i 0 ≡ false) (sym e) (node_some cs m _ _ v ok) in
      record {
        made = record { side = w.made.side; gone = w.made.gone };
        is = rw (some, w.is);
        stands = w.stands;
        more = w.more;
        left = w.left;
        as_read = w.as_read;
        same = w.same;
      }

  with_least_count : (z : Region K) (r : Tree Label (Region K)) → count (with_least z r) ≡ suc (count r)
  with_least_count z leaf = refl
  with_least_count z (node o a x b) = omega (arith, rebuilt_count cs (Some z) a x b)

  pub parted_lifts :
      (p : Numbered K) (o : Label) (l : Tree Label (Region K)) (x : Region K) (r : Tree Label (Region K)) (y z : Region K) →
      Stands cs (kept p.number) (node o l x r) → cell_at cs p.number ≡ readable p.node → height (node o l x r) ≤ 27 →
      count (node o l x r) < 65535 → Lifted cs (λ j. keeps j (node o l x r)) [] (parted cs p y z) (balance new l y (with_least z r))
  unfolding parted
  parted_lifts p o l x r y z s h low few =
      let parts = read_parts cs p o l x r s h in
      let w = grown_lifts (p ∷ []) z p.node.right r parts.right (omega (arith, edge_low r)) (omega arith) in
      after cs _ w.made _ w.is
      (last_step _ p w.more w.made.gone w.made.side y l (with_least z r) h parts.left w.stands w.left w.as_read
      (omega (arith, with_least_count z r)) (λ j. omega (arith, w.same j, parts.counted j)))
