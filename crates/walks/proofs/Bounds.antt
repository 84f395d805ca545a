-- What drop and split take apart are nodes of the store, and each of them wants at most 96 new nodes.
use Rattle.std.proofs.Common.{◌≡◌, ℕ, zero, suc, ◌+◌, ◌*◌, ◌≤◌, false, List, [], ◌∷◌, ◌++◌, length, Some, None, Ok, Option, Result, refl, ap, subst, arith}
use Rattle.store.specs.declared.node.Node.{Node}
use Rattle.store.specs.declared.node.Region.{Region}
use Rattle.store.specs.declared.fault.StoreFault.{StoreFault}
use Rattle.store.specs.Faults.{outside}
use Rattle.store.specs.Cells.{Cell, read_answer}
use Rattle.store.specs.Nodes.{region_of, link_number}
use Rattle.drafts.specs.declared.link.Numbered.{Numbered}
use Rattle.drafts.specs.Grown.{Grown, kept, Seen, stored, Built, bind, tree, seen, joined, without, balanced}
use Rattle.commits.specs.Commits.{news, GoneInside}
use Rattle.commits.proofs.Bounds.{bind_inv, read_from, seen_fair, without_inside, Bound, balanced_bound}
use Rattle.walks.specs.Walks.{Graft, Walked, numbered, sprout, walked_as, edge_end, edge_over, edge_at, walked, merged, grown_by, parted}
use Rattle.walks.specs.Outcomes.{topped}

module _ {K : Type 0} where
  -- the bounds of a side that was made
  pub record GraftBound (N m : ℕ) (g : Graft K) : Type 0 where
    pub gone : GoneInside N g.gone
    pub few : news g.side ≤ m

  abbrev graft_in : Walked K → Graft K
  graft_in w = record { side = w.side; gone = w.gone }

  graft_as : (N m : ℕ) (g g' : Graft K) → ◌≡◌ {A = Result (Graft K) StoreFault} (Ok g) (Ok g') → GraftBound N m g' → GraftBound N m g
  graft_as N m g g' e f = let q : g' ≡ g = cc in subst (GraftBound N m) q f

  walked_is : (N m : ℕ) (w w' : Walked K) → ◌≡◌ {A = Result (Walked K) StoreFault} (Ok w) (Ok w') → GraftBound N m (graft_in w') → GraftBound N m (graft_in w)
  walked_is N m w w' e f = let q : w' ≡ w = cc in subst (λ x. GraftBound N m (graft_in x)) q f

  -- one more node of the store
  gone_more : (cs : List (Cell K)) (gone : List (Numbered K)) (n : ℕ) (v : Node K) → Ok v ≡ read_answer cs n → GoneInside (length cs) gone → GoneInside (length cs) (gone ++ (numbered n v ∷ []))
  unfolding without
  gone_more cs gone n v e p = without_inside (length cs) gone (stored (numbered n v)) p (read_from cs n v e)

  -- a new node over two trees, balanced
  over_bound : (cs : List (Cell K)) (gone : List (Numbered K)) (x : Region K) (a c : Grown K) (l r : Seen K) (b : Built K) → Ok l ≡ seen cs a → Ok r ≡ seen cs c → Ok b ≡ balanced cs gone x l r →
      GoneInside (length cs) gone → Bound (length cs) (news a + news c + 3) b
  over_bound cs gone x a c l r b h i e p =
      let f = seen_fair cs a l h in
      let g = seen_fair cs c r i in
      let k = balanced_bound cs gone x l r b e p f.inside g.inside in
      record { gone = k.gone; few = omega (arith, k.few, ap news f.same, ap news g.same) }

  topped_bound : (cs : List (Cell K)) (gone : List (Numbered K)) (x : Region K) (a c : Grown K) (b : Built K) → Ok b ≡ topped cs gone x a c → GoneInside (length cs) gone → Bound (length cs) (news a + news c + 3) b
  topped_bound cs gone x a c b e p =
      let i = bind_inv (seen cs a) _ b e in
      let j = bind_inv (seen cs c) _ b i.2 in
      over_bound cs gone x a c i.0 j.0 b i.1 j.1 j.2 p

  end_bound : (cs : List (Cell K)) (gone : List (Numbered K)) (edge : Option (Region K)) (v : Node K) (g : Graft K) → Ok g ≡ edge_end cs gone edge v → GoneInside (length cs) gone → GraftBound (length cs) 4 g
  unfolding edge_end news seen tree joined
  end_bound cs gone None v g e p = graft_as (length cs) 4 g _ e (record { gone = p; few = omega arith })
  end_bound cs gone (Some z) v g e p =
      let i = bind_inv (seen cs (kept v.right)) _ g e in
      let j = bind_inv _ _ g i.2 in
      let k = over_bound cs gone (region_of v) (tree (sprout z)) (kept v.right) (sprout z) i.0 j.0 refl i.1 j.1 p in
      graft_as (length cs) 4 g _ j.2 (record { gone = k.gone; few = k.few })

  edge_over_bound : (cs : List (Cell K)) (v : Node K) (w u : Walked K) (m : ℕ) → Ok u ≡ edge_over cs v w → GraftBound (length cs) m (graft_in w) → GraftBound (length cs) (m + 3) (graft_in u)
  unfolding edge_over news
  edge_over_bound cs v w u m e f =
      let i = bind_inv _ _ u e in
      let j = bind_inv _ _ u i.2 in
      let l = bind_inv _ _ u j.2 in
      let k = over_bound cs w.gone (region_of v) w.side (kept v.right) i.0 j.0 l.0 i.1 j.1 l.1 f.gone in
      walked_is (length cs) (m + 3) u _ l.2 (record { gone = k.gone; few = omega (arith, k.few, f.few) })

  last_bound : (cs : List (Cell K)) (gone : List (Numbered K)) (edge : Option (Region K)) (n : ℕ) (v : Node K) (w : Walked K) → Ok w ≡ bind (edge_end cs gone edge v) (λ g. Ok (walked_as n g)) →
      GoneInside (length cs) gone → GraftBound (length cs) 4 (graft_in w)
  last_bound cs gone edge n v w e p =
      let i = bind_inv _ _ w e in
      walked_is (length cs) 4 w _ i.2 (end_bound cs gone edge v i.0 i.1 p)

  wide : (N m m' : ℕ) (g : Graft K) → m ≤ m' → GraftBound N m g → GraftBound N m' g
  wide N m m' g h f = record { gone = f.gone; few = omega (arith, f.few) }

  edge_at_bound : (on : List (Numbered K) → ℕ → Result (Walked K) StoreFault) (cs : List (Cell K)) (gone : List (Numbered K)) (edge : Option (Region K)) (n : ℕ) (v : Node K) (o : Option ℕ) (w : Walked K) (m : ℕ) →
      Ok w ≡ edge_at on cs gone edge n v o → GoneInside (length cs) gone → 1 ≤ m → ((n : ℕ) (u : Walked K) → Ok u ≡ on gone n → GraftBound (length cs) m (graft_in u)) → GraftBound (length cs) (m + 3) (graft_in w)
  edge_at_bound on cs gone edge n v None w m e p h rec = wide (length cs) 4 (m + 3) (graft_in w) (omega arith) (last_bound cs gone edge n v w e p)
  edge_at_bound on cs gone edge n v (Some l) w m e p h rec =
      let i = bind_inv _ _ w e in
      edge_over_bound cs v i.0 w m i.2 (rec l i.0 i.1)

  -- the walk through at most k more nodes
  walked_bound : (k : ℕ) (cs : List (Cell K)) (edge : Option (Region K)) (gone : List (Numbered K)) (n : ℕ) (w : Walked K) → Ok w ≡ walked k cs edge gone n → GoneInside (length cs) gone →
      GraftBound (length cs) (3 * k + 4) (graft_in w)
  unfolding walked
  walked_bound zero cs edge gone n w e p =
      let i = bind_inv _ _ w e in
      last_bound cs (gone ++ (numbered n i.0 ∷ [])) edge n i.0 w i.2 (gone_more cs gone n i.0 i.1 p)
  walked_bound (suc k) cs edge gone n w e p =
      let i = bind_inv _ _ w e in
      let q = gone_more cs gone n i.0 i.1 p in
      wide (length cs) (3 * k + 4 + 3) (3 * suc k + 4) (graft_in w) (omega arith)
      (edge_at_bound (walked k cs edge) cs (gone ++ (numbered n i.0 ∷ [])) edge n i.0 (link_number i.0.left) w (3 * k + 4) i.2 q (omega arith) (λ m u f. walked_bound k cs edge (gone ++ (numbered n i.0 ∷ [])) m u f q))

  -- drop
  pub merged_bound : (cs : List (Cell K)) (p : Numbered K) (b : Built K) → Ok b ≡ merged cs p → outside p.number (length cs) ≡ false → Bound (length cs) 96 b
  unfolding merged news
  merged_bound cs p b e h =
      let i = bind_inv (walked 26 cs None (p ∷ []) p.node.right) _ b e in
      let j = bind_inv (read_answer cs i.0.least) _ b i.2 in
      let f = walked_bound 26 cs None (p ∷ []) p.node.right i.0 i.1 (h, tt) in
      let k = topped_bound cs i.0.gone (region_of j.0) (kept p.node.left) i.0.side b j.2 f.gone in
      record { gone = k.gone; few = omega (arith, k.few, f.few) }

  grown_bound : (cs : List (Cell K)) (gone : List (Numbered K)) (z : Region K) (o : Option ℕ) (g : Graft K) → Ok g ≡ grown_by cs gone z o → GoneInside (length cs) gone → GraftBound (length cs) 82 g
  unfolding news tree joined
  grown_bound cs gone z None g e p = graft_as (length cs) 82 g _ e (record { gone = p; few = omega arith })
  grown_bound cs gone z (Some n) g e p =
      let i = bind_inv _ _ g e in
      graft_as (length cs) 82 g _ i.2 (walked_bound 26 cs (Some z) gone n i.0 i.1 p)

  -- split
  pub parted_bound : (cs : List (Cell K)) (p : Numbered K) (lower upper : Region K) (b : Built K) → Ok b ≡ parted cs p lower upper → outside p.number (length cs) ≡ false → Bound (length cs) 96 b
  unfolding parted news
  parted_bound cs p lower upper b e h =
      let i = bind_inv (grown_by cs (p ∷ []) upper (link_number p.node.right)) _ b e in
      let f = grown_bound cs (p ∷ []) upper (link_number p.node.right) i.0 i.1 (h, tt) in
      let k = topped_bound cs i.0.gone lower (kept p.node.left) i.0.side b i.2 f.gone in
      record { gone = k.gone; few = omega (arith, k.few, f.few) }
