-- The walk down a left edge. One proof serves both ends, that of drop and that of split.
use Rattle.std.proofs.Common.{◌≡◌, ℕ, zero, suc, ◌+◌, ◌<◌, ◌≤◌, true, false, eqb, List, [], ◌∷◌, ◌++◌, Some, None, Option, Ok, Result, sym, refl, ◌∙◌, subst, append_assoc, append-nil, arith}
use Rattle.store.specs.declared.node.Node.{Node}
use Rattle.store.specs.declared.node.Region.{Region}
use Rattle.store.specs.declared.fault.StoreFault.{StoreFault}
use Rattle.store.specs.Cells.{Cell, cell_at, readable, read_answer}
use Rattle.store.specs.Nodes.{region_of}
use Rattle.trees.specs.Trees.{Tree, leaf, node, count}
use Rattle.trees.specs.Rotations.{Label, kept as stays, new}
use Rattle.trees.specs.Edits.{least, rebuilt, sprout as sprout_of}
use Rattle.trees.proofs.Rotations.{balance_count}
use Rattle.drafts.specs.declared.link.Numbered.{Numbered}
use Rattle.drafts.specs.Grown.{kept, tree, weight, opened, without, joined}
use Rattle.walks.specs.Walks.{Graft, numbered, sprout, graft_of, walked_as, edge_end, edge_over, walked}
use Rattle.runs.specs.States.{NodeInTree}
use Rattle.lifting.specs.Lifts.{keeps, leaves, AllRead, Stands, Shows, edge_length, least_label, end_of, WalkLifted}
use Rattle.lifting.proofs.Seeing.{sees, node_reads, node_some}
use Rattle.lifting.proofs.Turning.{leaves_append, read_append, balanced_lifts}

one_before : {A : Type 0} (xs : List A) (y : A) (zs ws us vs : List A) → us ≡ (xs ++ (y ∷ [])) ++ zs → vs ≡ us ++ ws → vs ≡ xs ++ (y ∷ (zs ++ ws))
one_before xs y zs ws us vs e f = rw (f, e) (simp append_assoc)

pub none_at : (n : ℕ) → n ≡ 0 → eqb n 0 ≡ true
none_at n e = rw e

module _ {K : Type 0} (cs : List (Cell K)) where
  -- a graft that stands for a tree
  pub record Grafted (before : ℕ → ℕ) (gone : List (Numbered K)) (r : Result (Graft K) StoreFault) (t : Tree Label (Region K)) : Type 0 where
    pub made : Graft K
    pub is : r ≡ Ok made
    pub stands : Stands cs made.side t
    pub more : List (Numbered K)
    pub left : made.gone ≡ gone ++ more
    pub as_read : AllRead cs more
    pub same : (n : ℕ) → leaves n made.gone + keeps n t ≡ before n

  pub sprout_shows : (z : Region K) → Shows cs (sprout z) (sprout_of z)
  unfolding joined tree weight opened without
  sprout_shows z = record {
    stands = (refl, refl, refl, refl);
    weighs = refl;
    opens = (refl, refl, refl);
    leaving = [];
    taken = λ gone. sym (append-nil gone);
    as_read = tt;
    numbers = λ n. refl;
  }

  -- how many regions an end adds, the lowest node's counted
  abbrev added : Option (Region K) → ℕ
  added None = 0
  added (Some z) = 2

  end_count : (e : Option (Region K)) (y : Region K) (u : Tree Label (Region K)) → count (end_of e y u) ≡ added e + count u
  end_count None y u = omega arith
  end_count (Some z) y u = omega (arith, balance_count new (sprout_of z) y u)

  end_lifts :
      (e : Option (Region K)) (gone : List (Numbered K)) (v : Node K) (b : Tree Label (Region K)) → Stands cs (kept v.right) b → count b < 65534 →
      Grafted (λ n. leaves n gone + keeps n b) gone (edge_end cs gone e v) (end_of e (region_of v) b)
  unfolding edge_end
  end_lifts None gone v b s few = record {
    made = record { side = kept v.right; gone = gone };
    is = refl;
    stands = s;
    more = [];
    left = sym (append-nil gone);
    as_read = tt;
    same = λ n. refl;
  }
  end_lifts (Some z) gone v b s few =
      let r = sees cs (kept v.right) b s in
      let m =
      balanced_lifts cs (λ n. leaves n gone + keeps n b) gone (region_of v) (sprout z) r.side (sprout_of z) b (sprout_shows z) r.shows (omega arith)
      (λ n. omega arith) in
      record { made = graft_of m.made; is = rw (r.is, m.is); stands = m.stands; more = m.more; left = m.left; as_read = m.as_read; same = m.same }

  pub rebuilt_count : (e : Option (Region K)) (a : Tree Label (Region K)) (x : Region K) (b : Tree Label (Region K)) → count (rebuilt (end_of e) a x b) ≡ added e + (count a + count b)
  rebuilt_count e leaf x b = omega (arith, end_count e x b)
  rebuilt_count e (node p c y d) x b = omega (arith, rebuilt_count e c y d, balance_count new (rebuilt (end_of e) c y d) x b)

  added_few : (e : Option (Region K)) → added e ≤ 2
  added_few None = omega arith
  added_few (Some z) = omega arith

  abbrev Told : ℕ → Option (Region K) → List (Numbered K) → ℕ → ℕ → Tree Label (Region K) → Region K → Tree Label (Region K) → Type 0
  Told k e gone n m a x b =
      WalkLifted cs (λ j. leaves j gone + keeps j (node (stays m) a x b)) gone (walked k cs e gone n) (least_label a (stays m)) (least a x) (rebuilt (end_of e) a x b)

  -- the lowest node of the edge
  at_end :
      (k : ℕ) (e : Option (Region K)) (gone : List (Numbered K)) (m : ℕ) (v : Node K) (b : Tree Label (Region K)) → read_answer cs m ≡ Ok v →
      cell_at cs m ≡ readable v → eqb v.left 0 ≡ true → Stands cs (kept v.right) b → count b < 65534 → Told k e gone m m leaf (region_of v) b
  unfolding walked
  at_end k e gone m v b f c z s few = by_depth k
    where
      on : List (Numbered K)
      on = gone ++ (numbered m v ∷ [])

      there : Grafted (λ n. leaves n on + keeps n b) on (edge_end cs on e v) (end_of e (region_of v) b)
      there = end_lifts e on v b s few

      told : (k : ℕ) → walked k cs e gone m ≡ Ok (walked_as m there.made) → Told k e gone m m leaf (region_of v) b
      told k is = record {
        made = walked_as m there.made;
        is = is;
        stands = there.stands;
        more = numbered m v ∷ there.more;
        left = there.left ∙ append_assoc gone (numbered m v ∷ []) there.more;
        as_read = (c, there.as_read);
        same = λ n. omega (arith, there.same n, leaves_append n gone (numbered m v ∷ []));
        numbered = refl;
        last = v;
        reads = f;
        holds = refl;
      }

      by_depth : (k : ℕ) → Told k e gone m m leaf (region_of v) b
      by_depth zero = told zero (rw (f, there.is))
      by_depth (suc k) = told (suc k) (rw (f, z, there.is))

  -- a node above it
  above_end :
      (k : ℕ) (e : Option (Region K)) (gone : List (Numbered K)) (m i : ℕ) (v : Node K) (c : Tree Label (Region K)) (y : Region K) (d b : Tree Label (Region K)) →
      read_answer cs m ≡ Ok v → cell_at cs m ≡ readable v → eqb v.left 0 ≡ false → Stands cs (kept v.right) b →
      count (node (stays i) c y d) + count b < 65534 → Told k e (gone ++ (numbered m v ∷ [])) v.left i c y d →
      Told (suc k) e gone m m (node (stays i) c y d) (region_of v) b
  unfolding walked edge_over
  above_end k e gone m i v c y d b f h z s few low =
      let t : Tree Label (Region K) = rebuilt (end_of e) c y d in
      let w = low.made in
      let l = sees cs w.side t low.stands in
      let r = sees cs (kept v.right) b s in
      let before : ℕ → ℕ = λ j. leaves j gone + keeps j (node (stays m) (node (stays i) c y d) (region_of v) b) in
      let q =
      balanced_lifts cs before w.gone (region_of v) l.side r.side t b l.shows r.shows (omega (arith, rebuilt_count e c y d, added_few e))
      (λ j. omega (arith, low.same j, leaves_append j gone (numbered m v ∷ []))) in
      record {
        made = walked_as w.least (graft_of q.made);
        is = rw (f, z, low.is, l.is, r.is, q.is);
        stands = q.stands;
        more = numbered m v ∷ (low.more ++ q.more);
        left = one_before gone (numbered m v) low.more q.more w.gone q.made.gone low.left q.left;
        as_read = (h, read_append cs low.more q.more low.as_read q.as_read);
        same = q.same;
        numbered = low.numbered;
        last = low.last;
        reads = low.reads;
        holds = low.holds;
      }

  -- the number of a node and its region as the tree has them
  told_at :
      (k : ℕ) (e : Option (Region K)) (gone : List (Numbered K)) (n m : ℕ) (a : Tree Label (Region K)) (x : Region K) (b : Tree Label (Region K)) (v : Node K) → n ≡ m →
      {many : ℕ} → NodeInTree cs [] m x many v → Told k e gone m m a (region_of v) b → Told k e gone n m a x b
  told_at k e gone n m a x b v en ok h = subst (λ i. Told k e gone i m a x b) (sym en) (subst (λ y. Told k e gone m m a y b) ok.the_region h)

  -- THE WALK over a side that stands, where its left edge is short enough
  pub walk_lifts :
      (k : ℕ) (e : Option (Region K)) (gone : List (Numbered K)) (n m : ℕ) (a : Tree Label (Region K)) (x : Region K) (b : Tree Label (Region K)) →
      Stands cs (kept n) (node (stays m) a x b) → edge_length a ≤ k → count a + count b < 65534 → Told k e gone n m a x b
  walk_lifts k e gone n m leaf x b (v, en, ok, sl, sr) short few =
      told_at k e gone n m leaf x b v en ok (at_end k e gone m v b (node_reads cs m _ _ v ok) ok.can_be_read (none_at v.left sl) sr (omega arith))
  walk_lifts zero e gone n m (node o c y d) x b s short few = absurd (omega arith)
  walk_lifts (suc k) e gone n m (node new c y d) x b (v, en, ok, sl, sr) short few = absurd sl
  walk_lifts (suc k) e gone n m (node (stays i) c y d) x b (v, en, ok, (w, el, okl, sc, sd), sr) short few =
      told_at (suc k) e gone n m (node (stays i) c y d) x b v en ok
      (above_end k e gone m i v c y d b (node_reads cs m _ _ v ok) ok.can_be_read (subst (λ j. eqb j 0 ≡ false) (sym el) (node_some cs i _ _ w okl)) sr few
      (walk_lifts k e (gone ++ (numbered m v ∷ [])) v.left i c y d (w, el, okl, sc, sd) (omega arith) (omega arith)))
