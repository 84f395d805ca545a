-- What a rotation takes apart are nodes of the store, and it wants at most three new nodes; so does a new node that is balanced.
use Rattle.std.proofs.Common.{◌≡◌, ℕ, ◌+◌, ◌*◌, ◌≤◌, Bool, true, false, cond, eqb, ltb, List, [], ◌∷◌, ◌++◌, length, Some, None, Ok, Err, Option, Result, sym, refl, ap, subst, arith}
use Rattle.std.proofs.lemmas.Bool.{eqb-true}
use Rattle.store.specs.declared.node.Node.{Node}
use Rattle.store.specs.declared.fault.StoreFault.{StoreFault}
use Rattle.store.specs.declared.fault.Function.TheVariants.{Read, Mark}
use Rattle.store.specs.Faults.{outside}
use Rattle.store.specs.Cells.{Cell, read_answer, mark_answer}
use Rattle.store.proofs.Insides.{answered}
use Rattle.store.specs.declared.node.Region.{Region}
use Rattle.drafts.specs.declared.link.Numbered.{Numbered}
use Rattle.drafts.specs.declared.link.Lean.{Lean}
use Rattle.drafts.specs.declared.link.Lean.TheVariants.{Right, Left}
use Rattle.drafts.specs.Grown.{Grown, kept, built, Seen, nothing, stored, fresh, Parts, Built, bind, tree, weight, opened, without, seen, node_seen, joined, near, far, joined_by, single, lifted, raised, double, double_by, turned, turned_by, turned_over, turned_of, rotated, heavy_side, balanced, balanced_by}
use Rattle.search.specs.Frees.{Chosen}
use Rattle.commits.specs.Commits.{news, GoneInside, AllInside}

pub bind_inv : {A B E : Type 0} (m : Result A E) (f : A → Result B E) (b : B) → Ok b ≡ bind m f → (a : A) × (Ok a ≡ m) × (Ok b ≡ f a)
bind_inv (Ok a) f b e = (a, refl, e)
bind_inv (Err x) f b e = absurd (let z : ⊥ = cc in z)

module _ {K : Type 0} where
  abbrev pub SeenInside : ℕ → Seen K → Type 0
  SeenInside N nothing = Unit {0}
  SeenInside N (stored p) = outside p.number N ≡ false
  SeenInside N (fresh s x l r) = Unit {0}

  -- what a node read says
  pub read_from : (cs : List (Cell K)) (n : ℕ) (v : Node K) → Ok v ≡ read_answer cs n → outside n (length cs) ≡ false
  unfolding read_answer
  read_from cs n v e = answered Read n (length cs) _ v e

  pub record Fair (N : ℕ) (t : Grown K) (s : Seen K) : Type 0 where
    pub inside : SeenInside N s
    pub same : tree s ≡ t

  fair_as : (N : ℕ) (t : Grown K) (s s' : Seen K) → ◌≡◌ {A = Result (Seen K) StoreFault} (Ok s) (Ok s') → Fair N t s' → Fair N t s
  fair_as N t s s' e f = let q : s' ≡ s = cc in subst (Fair N t) q f

  fair_node : (cs : List (Cell K)) (n : ℕ) (s : Seen K) (r : Result (Node K) StoreFault) → r ≡ read_answer cs n → Ok s ≡ node_seen n r → Fair (length cs) (kept n) s
  unfolding tree
  fair_node cs n s (Ok v) h e = fair_as (length cs) (kept n) s _ e (record { inside = read_from cs n v h; same = refl })
  fair_node cs n s (Err x) h e = absurd (let z : ⊥ = cc in z)

  fair_by : (cs : List (Cell K)) (n : ℕ) (b : Bool) (s : Seen K) → eqb n 0 ≡ b → Ok s ≡ cond b (Ok nothing) (node_seen n (read_answer cs n)) → Fair (length cs) (kept n) s
  unfolding tree
  fair_by cs n true s z e = fair_as (length cs) (kept n) s _ e (record { inside = tt; same = ap kept (sym (eqb-true n 0 z)) })
  fair_by cs n false s z e = fair_node cs n s (read_answer cs n) refl e

  pub seen_fair : (cs : List (Cell K)) (t : Grown K) (s : Seen K) → Ok s ≡ seen cs t → Fair (length cs) t s
  unfolding seen tree
  seen_fair cs (kept n) s e = fair_by cs n (eqb n 0) s refl e
  seen_fair cs (built k x l r) s e = fair_as (length cs) (built k x l r) s _ e (record { inside = tt; same = refl })

  opened_news : (s : Seen K) (p : Parts K) → opened s ≡ Some p → news p.left + news p.right ≤ news (tree s)
  unfolding opened tree news
  opened_news nothing p e = absurd (let z : ⊥ = cc in z)
  opened_news (stored q) p e =
      let l : p.left ≡ kept q.node.left = cc in
      let r : p.right ≡ kept q.node.right = cc in
      rw (l, r) (omega arith)
  opened_news (fresh k x a b) p e =
      let l : p.left ≡ a = cc in
      let r : p.right ≡ b = cc in
      rw (l, r) (omega arith)

  parts_news : (s : Lean) (p : Parts K) → news (near s p) + news (far s p) ≡ news p.left + news p.right
  unfolding near far
  parts_news Right p = refl
  parts_news Left p = omega arith

  joined_news : (s : Lean) (x : Region K) (a b : Seen K) → news (tree (joined_by s x a b)) ≡ news (tree a) + news (tree b) + 1
  unfolding joined_by joined tree news
  joined_news Right x a b = refl
  joined_news Left x a b = omega arith

  pub without_inside : (N : ℕ) (gone : List (Numbered K)) (s : Seen K) → GoneInside N gone → SeenInside N s → GoneInside N (without gone s)
  unfolding without
  without_inside N gone nothing p q = p
  without_inside N gone (fresh k x l r) p q = p
  without_inside N gone (stored v) p q = snoc gone p
    where
      snoc : (gs : List (Numbered K)) → GoneInside N gs → GoneInside N (gs ++ (v ∷ []))
      snoc [] h = (q, tt)
      snoc (g ∷ gs) h = (h.0, snoc gs h.1)

  -- the bounds of what was built
  pub record Bound (N m : ℕ) (b : Built K) : Type 0 where
    pub gone : GoneInside N b.gone
    pub few : news (tree b.top) ≤ m

  bound_as : (N m : ℕ) (b b' : Built K) → ◌≡◌ {A = Result (Built K) StoreFault} (Ok b) (Ok b') → Bound N m b' → Bound N m b
  bound_as N m b b' e f = let q : b' ≡ b = cc in subst (Bound N m) q f

  single_news : (s : Lean) (x top : Region K) (light inner outer : Seen K) → news (tree (single s x light top inner outer)) ≡ news (tree light) + news (tree inner) + news (tree outer) + 2
  unfolding single
  single_news s x top light inner outer = omega (arith, joined_news s top (joined_by s x light inner) outer, joined_news s x light inner)

  lifted_news : (s : Lean) (x top mid : Region K) (light inner other outer : Seen K) →
      news (tree (lifted s x light top mid inner other outer)) ≡ news (tree light) + news (tree inner) + news (tree other) + news (tree outer) + 3
  unfolding lifted
  lifted_news s x top mid light inner other outer =
      omega (arith, joined_news s mid (joined_by s x light inner) (joined_by s top other outer), joined_news s x light inner, joined_news s top other outer)

  raised_bound : (cs : List (Cell K)) (gone : List (Numbered K)) (s : Lean) (x top : Region K) (light outer : Seen K) (mid : Parts K) (b : Built K) → Ok b ≡ raised cs gone s x light top mid outer →
      GoneInside (length cs) gone → Bound (length cs) (news (tree light) + (news mid.left + news mid.right) + news (tree outer) + 3) b
  unfolding raised
  raised_bound cs gone s x top light outer mid b e p =
      let i = bind_inv _ _ b e in
      let o = bind_inv _ _ b i.2 in
      let f = ap news (seen_fair cs (near s mid) i.0 i.1).same in
      let h = ap news (seen_fair cs (far s mid) o.0 o.1).same in
      bound_as (length cs) _ b _ o.2
      (record { gone = p; few = omega (arith, lifted_news s x top mid.region light i.0 o.0 outer, f, h, parts_news s mid) })

  double_bound : (cs : List (Cell K)) (gone : List (Numbered K)) (s : Lean) (x top : Region K) (light inner outer : Seen K) (b : Built K) (o : Option (Parts K)) → opened inner ≡ o →
      Ok b ≡ double_by cs gone s x light top inner outer o → GoneInside (length cs) gone → Bound (length cs) (news (tree light) + news (tree inner) + news (tree outer) + 3) b
  double_bound cs gone s x top light inner outer b None z e p =
      bound_as (length cs) _ b _ e (record { gone = p; few = omega (arith, single_news s x top light inner outer) })
  double_bound cs gone s x top light inner outer b (Some mid) z e p =
      let r = raised_bound cs gone s x top light outer mid b e p in
      record { gone = r.gone; few = omega (arith, r.few, opened_news inner mid z) }

  by_bound : (cs : List (Cell K)) (gone : List (Numbered K)) (s : Lean) (x top : Region K) (light inner outer : Seen K) (b : Built K) (t : Bool) → Ok b ≡ turned_by t cs gone s x light top inner outer →
      GoneInside (length cs) gone → SeenInside (length cs) inner → Bound (length cs) (news (tree light) + news (tree inner) + news (tree outer) + 3) b
  unfolding turned_by double
  by_bound cs gone s x top light inner outer b true e p q =
      bound_as (length cs) _ b _ e (record { gone = p; few = omega (arith, single_news s x top light inner outer) })
  by_bound cs gone s x top light inner outer b false e p q =
      double_bound cs (without gone inner) s x top light inner outer b (opened inner) refl e (without_inside (length cs) gone inner p q)

  of_bound : (cs : List (Cell K)) (gone : List (Numbered K)) (s : Lean) (x : Region K) (light heavy : Seen K) (b : Built K) (o : Option (Parts K)) → opened heavy ≡ o →
      Ok b ≡ turned_of cs gone s x light heavy o → GoneInside (length cs) gone → Bound (length cs) (news (tree light) + news (tree heavy) + 3) b
  unfolding turned_over
  of_bound cs gone s x light heavy b None z e p =
      bound_as (length cs) _ b _ e (record { gone = p; few = omega (arith, joined_news s x light heavy) })
  of_bound cs gone s x light heavy b (Some top) z e p =
      let i = bind_inv _ _ b e in
      let o = bind_inv _ _ b i.2 in
      let a = seen_fair cs (near s top) i.0 i.1 in
      let c = seen_fair cs (far s top) o.0 o.1 in
      let r = by_bound cs gone s x top.region light i.0 o.0 b (ltb (weight i.0) (2 * weight o.0)) o.2 p a.inside in
      record { gone = r.gone; few = omega (arith, r.few, ap news a.same, ap news c.same, parts_news s top, opened_news heavy top z) }

  -- the rotation over two sides
  pub rotated_bound : (cs : List (Cell K)) (gone : List (Numbered K)) (s : Lean) (x : Region K) (l r : Seen K) (b : Built K) → Ok b ≡ rotated cs gone s x l r →
      GoneInside (length cs) gone → SeenInside (length cs) l → SeenInside (length cs) r → Bound (length cs) (news (tree l) + news (tree r) + 3) b
  unfolding rotated turned
  rotated_bound cs gone Right x l r b e p q h = of_bound cs (without gone r) Right x l r b (opened r) refl e (without_inside (length cs) gone r p h)
  rotated_bound cs gone Left x l r b e p q h =
      let k = of_bound cs (without gone l) Left x r l b (opened l) refl e (without_inside (length cs) gone l p q) in
      record { gone = k.gone; few = omega (arith, k.few) }

  balanced_by_bound : (cs : List (Cell K)) (gone : List (Numbered K)) (x : Region K) (l r : Seen K) (b : Built K) (o : Option Lean) → Ok b ≡ balanced_by o cs gone x l r →
      GoneInside (length cs) gone → SeenInside (length cs) l → SeenInside (length cs) r → Bound (length cs) (news (tree l) + news (tree r) + 3) b
  unfolding joined_by
  balanced_by_bound cs gone x l r b None e p q h = bound_as (length cs) _ b _ e (record { gone = p; few = omega (arith, joined_news Right x l r) })
  balanced_by_bound cs gone x l r b (Some s) e p q h = rotated_bound cs gone s x l r b e p q h

  -- a new node over two sides, rotated or not
  pub balanced_bound : (cs : List (Cell K)) (gone : List (Numbered K)) (x : Region K) (l r : Seen K) (b : Built K) → Ok b ≡ balanced cs gone x l r →
      GoneInside (length cs) gone → SeenInside (length cs) l → SeenInside (length cs) r → Bound (length cs) (news (tree l) + news (tree r) + 3) b
  unfolding balanced
  balanced_bound cs gone x l r b e p q h = balanced_by_bound cs gone x l r b (heavy_side (weight l) (weight r)) e p q h

  -- numbers that may be taken are nodes of the store
  pub chosen_inside : (cs : List (Cell K)) (ns : List ℕ) → Chosen cs ns → AllInside (length cs) ns
  unfolding mark_answer
  chosen_inside cs [] p = tt
  chosen_inside cs (n ∷ ns) p = (answered Mark n (length cs) _ 0 (sym p.0.1), chosen_inside cs ns p.1.1)
