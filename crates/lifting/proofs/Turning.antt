-- New nodes over sides that stand, and rotations of them. One text serves both directions.
use Rattle.std.proofs.Common.{◌≡◌, ℕ, suc, ◌+◌, ◌*◌, ◌<◌, Bool, true, false, cond, ltb, List, [], ◌∷◌, ◌++◌, Some, None, Ok, Option, Result, sym, refl, ap, ◌∙◌, subst, append_assoc, append-nil, arith}
use Rattle.store.specs.declared.node.Region.{Region}
use Rattle.store.specs.declared.fault.StoreFault.{StoreFault}
use Rattle.store.specs.Cells.{Cell}
use Rattle.trees.specs.Trees.{Side, left, right, Tree, leaf, node, count, beside, pick, weight as weight_of}
use Rattle.trees.specs.Rotations.{Label, new, rotate, rotate_by, balance, balance_by, too_heavy, single as SingleOf, double as double_of}
use Rattle.drafts.specs.declared.link.Lean.{Lean}
use Rattle.drafts.specs.declared.link.Lean.TheVariants.{Right, Left}
use Rattle.drafts.specs.declared.link.Numbered.{Numbered}
use Rattle.drafts.specs.Grown.{Seen, Parts, Built, bind, tree, weight, opened, without, joined, size_over, near, far, joined_by, single, lifted, raised, double, double_by, turned_by, turned_over, turned_of, turned, heavy_side, rotated, balanced, balanced_by}
use Rattle.lifting.specs.Lifts.{keeps, top_keeps, leaves, AllRead, Stands, OpensTo, Shows, Lifted, Treated}
use Rattle.lifting.proofs.Seeing.{sees}

-- the light side, where the heavy one is named
abbrev pub light_side : Lean → Side
light_side Right = left
light_side Left = right

module _ {R : Type 0} where
  count_beside : (s : Side) (x : R) (a b : Tree Label R) → count (beside s new a x b) ≡ suc (count a + count b)
  count_beside left x a b = refl
  count_beside right x a b = omega arith

  keeps_beside : (n : ℕ) (s : Side) (x : R) (a b : Tree Label R) → keeps n (beside s new a x b) ≡ keeps n a + keeps n b
  keeps_beside n left x a b = omega arith
  keeps_beside n right x a b = omega arith

  pub count_pick : (s : Side) (a b : Tree Label R) → count (pick s a b) + count (pick s b a) ≡ count a + count b
  count_pick left a b = refl
  count_pick right a b = omega arith

  keeps_pick : (n : ℕ) (s : Side) (a b : Tree Label R) → keeps n (pick s a b) + keeps n (pick s b a) ≡ keeps n a + keeps n b
  keeps_pick n left a b = refl
  keeps_pick n right a b = omega arith

pub sum_size : (a b c d : ℕ) → a ≡ suc c → b ≡ suc d → c + d < 65535 → size_over a b ≡ suc (c + d)
sum_size a b c d p q few = grind arith

module _ {K : Type 0} where
  pub leaves_append : (n : ℕ) (a b : List (Numbered K)) → leaves n (a ++ b) ≡ leaves n a + leaves n b
  leaves_append n [] b = omega arith
  leaves_append n (p ∷ a) b = omega (arith, leaves_append n a b)

  pub read_append : (cs : List (Cell K)) (a b : List (Numbered K)) → AllRead cs a → AllRead cs b → AllRead cs (a ++ b)
  read_append cs [] b p q = q
  read_append cs (x ∷ a) b p q = (p.0, read_append cs a b p.1 q)

module _ {K : Type 0} (cs : List (Cell K)) where
  -- a side that stands and weighs what it should
  pub record Sits (s : Seen K) (t : Tree Label (Region K)) : Type 0 where
    pub stands : Stands cs (tree s) t
    pub weighs : weight s ≡ weight_of t

  pub sits : (s : Seen K) (t : Tree Label (Region K)) → Shows cs s t → Sits s t
  sits s t h = record { stands = h.stands; weighs = h.weighs }

  -- what has left once it is taken apart
  pub taken_leaves :
      (n : ℕ) (gone : List (Numbered K)) (s : Seen K) (t : Tree Label (Region K)) → Shows cs s t → leaves n (without gone s) ≡ leaves n gone + top_keeps n t
  taken_leaves n gone s t h = ap (leaves n) (h.taken gone) ∙ leaves_append n gone h.leaving ∙ ap (λ m. leaves n gone + m) (h.numbers n)

  -- NEW NODES

  pub joined_sits :
      (x : Region K) (l r : Seen K) (tl tr : Tree Label (Region K)) → Sits l tl → Sits r tr → count tl + count tr < 65535 →
      Sits (joined x l r) (node new tl x tr)
  unfolding joined tree weight
  joined_sits x l r tl tr sl sr few =
      let e = sum_size (weight l) (weight r) (count tl) (count tr) sl.weighs sr.weighs few in
      record { stands = (e, refl, sl.stands, sr.stands); weighs = omega (arith, e) }

  joined_by_sits :
      (s : Lean) (x : Region K) (a b : Seen K) (ta tb : Tree Label (Region K)) → Sits a ta → Sits b tb → count ta + count tb < 65535 →
      Sits (joined_by s x a b) (beside (light_side s) new ta x tb)
  unfolding joined_by
  joined_by_sits Right x a b ta tb sa sb few = joined_sits x a b ta tb sa sb few
  joined_by_sits Left x a b ta tb sa sb few = joined_sits x b a tb ta sb sa (omega arith)

  single_sits :
      (s : Lean) (x : Region K) (l : Seen K) (y : Region K) (i o : Seen K) (tl ti to : Tree Label (Region K)) → Sits l tl → Sits i ti → Sits o to →
      count tl + (count ti + count to) < 65534 → Sits (single s x l y i o) (SingleOf (light_side s) tl x ti y to)
  unfolding single
  single_sits s x l y i o tl ti to sl si so few =
      joined_by_sits s y _ o _ to (joined_by_sits s x l i tl ti sl si (omega arith)) so (omega (arith, count_beside (light_side s) x tl ti))

  lifted_sits :
      (s : Lean) (x : Region K) (l : Seen K) (y z : Region K) (i j o : Seen K) (tl ti tj to : Tree Label (Region K)) →
      Sits l tl → Sits i ti → Sits j tj → Sits o to → count tl + (count ti + count tj + count to) < 65533 →
      Sits (lifted s x l y z i j o) (beside (light_side s) new (beside (light_side s) new tl x ti) z (beside (light_side s) new tj y to))
  unfolding lifted
  lifted_sits s x l y z i j o tl ti tj to sl si sj so few =
      joined_by_sits s z _ _ _ _ (joined_by_sits s x l i tl ti sl si (omega arith)) (joined_by_sits s y j o tj to sj so (omega arith))
      (omega (arith, count_beside (light_side s) x tl ti, count_beside (light_side s) y tj to))

  -- WHAT IS DRAFTED

  -- a step that went well, then another
  pub after :
      {A : Type 0} {before : ℕ → ℕ} {gone : List (Numbered K)} {t : Tree Label (Region K)} (r : Result A StoreFault) (a : A)
      (f : A → Result (Built K) StoreFault) → r ≡ Ok a → Lifted cs before gone (f a) t → Lifted cs before gone (bind r f) t
  after r a f e l = rw e l

  -- what left before is counted
  pub left_before :
      (before : ℕ → ℕ) (gone more gone' : List (Numbered K)) (r : Result (Built K) StoreFault) (t : Tree Label (Region K)) → gone' ≡ gone ++ more →
      AllRead cs more → Lifted cs before gone' r t → Lifted cs before gone r t
  left_before before gone more gone' r t e a l = record {
    made = l.made;
    is = l.is;
    stands = l.stands;
    more = more ++ l.more;
    left = l.left ∙ ap (λ g. g ++ l.more) e ∙ append_assoc gone more l.more;
    as_read = read_append cs more l.more a l.as_read;
    same = l.same;
  }

  pub at_once :
      (before : ℕ → ℕ) (gone : List (Numbered K)) (s : Seen K) (t : Tree Label (Region K)) → Sits s t →
      ((n : ℕ) → leaves n gone + keeps n t ≡ before n) → Lifted cs before gone (Ok (record { top = s; gone = gone })) t
  at_once before gone s t h same =
      record { made = record { top = s; gone = gone }; is = refl; stands = h.stands; more = []; left = sym (append-nil gone); as_read = tt; same = same }

  near_stands :
      (s : Lean) (p : Parts K) (a b : Tree Label (Region K)) → Stands cs p.left a → Stands cs p.right b → Stands cs (near s p) (pick (light_side s) a b)
  unfolding near
  near_stands Right p a b sa sb = sa
  near_stands Left p a b sa sb = sb

  far_stands :
      (s : Lean) (p : Parts K) (a b : Tree Label (Region K)) → Stands cs p.left a → Stands cs p.right b → Stands cs (far s p) (pick (light_side s) b a)
  unfolding far
  far_stands Right p a b sa sb = sb
  far_stands Left p a b sa sb = sa

  -- ROTATIONS

  raised_lifts :
      (before : ℕ → ℕ) (gone : List (Numbered K)) (s : Lean) (x : Region K) (l : Seen K) (y : Region K) (mid : Parts K) (o : Seen K)
      (tl ta : Tree Label (Region K)) (z : Region K) (tb to : Tree Label (Region K)) →
      Sits l tl → mid.region ≡ z → Stands cs mid.left ta → Stands cs mid.right tb → Sits o to → count tl + (count ta + count tb + count to) < 65533 →
      ((n : ℕ) → leaves n gone + (keeps n tl + (keeps n ta + keeps n tb + keeps n to)) ≡ before n) →
      Lifted cs before gone (raised cs gone s x l y mid o)
      (beside (light_side s) new (beside (light_side s) new tl x (pick (light_side s) ta tb)) z (beside (light_side s) new (pick (light_side s) tb ta) y to))
  unfolding raised
  raised_lifts before gone s x l y mid o tl ta z tb to sl e sa sb so few same =
      let d = light_side s in
      let ti : Tree Label (Region K) = pick d ta tb in
      let tj : Tree Label (Region K) = pick d tb ta in
      let i = sees cs (near s mid) ti (near_stands s mid ta tb sa sb) in
      let j = sees cs (far s mid) tj (far_stands s mid ta tb sa sb) in
      let h =
      lifted_sits s x l y mid.region i.side j.side o tl ti tj to sl (sits i.side ti i.shows) (sits j.side tj j.shows) so
      (omega (arith, count_pick d ta tb)) in
      after _ i.side _ i.is (after _ j.side _ j.is
      (at_once before gone _ _
      (subst (λ w. Sits (lifted s x l y mid.region i.side j.side o) (beside d new (beside d new tl x ti) w (beside d new tj y to))) e h)
      (λ n. omega (
        arith,
        same n,
        keeps_beside n d z (beside d new tl x ti) (beside d new tj y to),
        keeps_beside n d x tl ti,
        keeps_beside n d y tj to,
        keeps_pick n d ta tb,
      ))))

  single_lifts :
      (before : ℕ → ℕ) (gone : List (Numbered K)) (s : Lean) (x : Region K) (l : Seen K) (y : Region K) (i o : Seen K)
      (tl ti to : Tree Label (Region K)) → Sits l tl → Sits i ti → Sits o to → count tl + (count ti + count to) < 65534 →
      ((n : ℕ) → leaves n gone + (keeps n tl + (keeps n ti + keeps n to)) ≡ before n) →
      Lifted cs before gone (Ok (record { top = single s x l y i o; gone = gone })) (SingleOf (light_side s) tl x ti y to)
  single_lifts before gone s x l y i o tl ti to sl si so few same =
      let d = light_side s in
      at_once before gone _ _ (single_sits s x l y i o tl ti to sl si so few)
      (λ n. omega (arith, same n, keeps_beside n d y (beside d new tl x ti) to, keeps_beside n d x tl ti))

  double_lifts :
      (before : ℕ → ℕ) (gone : List (Numbered K)) (s : Lean) (x : Region K) (l : Seen K) (y : Region K) (i o : Seen K)
      (tl ti to : Tree Label (Region K)) → Sits l tl → Shows cs i ti → Sits o to → count tl + (count ti + count to) < 65534 →
      ((n : ℕ) → leaves n gone + (keeps n tl + (keeps n ti + keeps n to)) ≡ before n) →
      Lifted cs before gone (double cs gone s x l y i o) (double_of (light_side s) tl x ti y to)
  unfolding double
  double_lifts before gone s x l y i o tl ti to sl si so few same =
      left_before before gone si.leaving (without gone i) _ _ (si.taken gone) si.as_read (by_parts ti (opened i) si si.opens few same)
    where
      by_parts :
          (ti : Tree Label (Region K)) (p : Option (Parts K)) → Shows cs i ti → OpensTo cs p ti → count tl + (count ti + count to) < 65534 →
          ((n : ℕ) → leaves n gone + (keeps n tl + (keeps n ti + keeps n to)) ≡ before n) →
          Lifted cs before (without gone i) (double_by cs (without gone i) s x l y i o p) (double_of (light_side s) tl x ti y to)
      by_parts leaf None si h few same =
          single_lifts before (without gone i) s x l y i o tl leaf to sl (sits i leaf si) so few (λ n. omega (arith, same n, taken_leaves n gone i leaf si))
      by_parts leaf (Some p) si h few same = absurd h
      by_parts (node q a z b) None si h few same = absurd h
      by_parts (node q a z b) (Some p) si h few same =
          raised_lifts before (without gone i) s x l y p o tl a z b to sl h.0 h.1 h.2 so (omega arith)
          (λ n. omega (arith, same n, taken_leaves n gone i (node q a z b) si))

  turned_by_lifts :
      (short : Bool) (before : ℕ → ℕ) (gone : List (Numbered K)) (s : Lean) (x : Region K) (l : Seen K) (y : Region K) (i o : Seen K)
      (tl ti to : Tree Label (Region K)) → Sits l tl → Shows cs i ti → Sits o to → count tl + (count ti + count to) < 65534 →
      ((n : ℕ) → leaves n gone + (keeps n tl + (keeps n ti + keeps n to)) ≡ before n) →
      Lifted cs before gone (turned_by short cs gone s x l y i o) (rotate_by short (light_side s) tl x ti y to)
  unfolding turned_by
  turned_by_lifts true before gone s x l y i o tl ti to sl si so few same = single_lifts before gone s x l y i o tl ti to sl (sits i ti si) so few same
  turned_by_lifts false before gone s x l y i o tl ti to sl si so few same = double_lifts before gone s x l y i o tl ti to sl si so few same

  turned_over_lifts :
      (before : ℕ → ℕ) (gone : List (Numbered K)) (s : Lean) (x : Region K) (l : Seen K) (top : Parts K) (tl : Tree Label (Region K)) (q : Label)
      (a : Tree Label (Region K)) (y : Region K) (b : Tree Label (Region K)) → Sits l tl → OpensTo cs (Some top) (node q a y b) →
      count tl + (count a + count b) < 65534 → ((n : ℕ) → leaves n gone + (keeps n tl + (keeps n a + keeps n b)) ≡ before n) →
      Lifted cs before gone (turned_over cs gone s x l top) (rotate (light_side s) tl x (node q a y b))
  unfolding turned_over
  turned_over_lifts before gone s x l top tl q a y b sl h few same =
      let d = light_side s in
      let ti : Tree Label (Region K) = pick d a b in
      let to : Tree Label (Region K) = pick d b a in
      let i = sees cs (near s top) ti (near_stands s top a b h.1 h.2) in
      let o = sees cs (far s top) to (far_stands s top a b h.1 h.2) in
      let short = ltb (weight i.side) (2 * weight o.side) in
      let told = turned_by short cs gone s x l top.region i.side o.side in
      let m =
      turned_by_lifts short before gone s x l top.region i.side o.side tl ti to sl i.shows (sits o.side to o.shows)
      (omega (arith, count_pick d a b)) (λ n. omega (arith, same n, keeps_pick n d a b)) in
      let e : short ≡ ltb (weight_of ti) (2 * weight_of to) = cc (i.shows.weighs, o.shows.weighs) in
      after _ i.side _ i.is (after _ o.side _ o.is
      (subst (λ c. Lifted cs before gone told (rotate_by c d tl x ti y to)) e (subst (λ w. Lifted cs before gone told (rotate_by short d tl x ti w to)) h.0 m)))

  -- the rotation over a light and a heavy side
  pub turned_lifts :
      (before : ℕ → ℕ) (gone : List (Numbered K)) (s : Lean) (x : Region K) (l h : Seen K) (tl th : Tree Label (Region K)) →
      Sits l tl → Shows cs h th → count tl + count th < 65535 → ((n : ℕ) → leaves n gone + (keeps n tl + keeps n th) ≡ before n) →
      Lifted cs before gone (turned cs gone s x l h) (rotate (light_side s) tl x th)
  unfolding turned
  turned_lifts before gone s x l h tl th sl sh few same =
      left_before before gone sh.leaving (without gone h) _ _ (sh.taken gone) sh.as_read (by_parts th (opened h) sh sh.opens few same)
    where
      by_parts :
          (th : Tree Label (Region K)) (p : Option (Parts K)) → Shows cs h th → OpensTo cs p th → count tl + count th < 65535 →
          ((n : ℕ) → leaves n gone + (keeps n tl + keeps n th) ≡ before n) →
          Lifted cs before (without gone h) (turned_of cs (without gone h) s x l h p) (rotate (light_side s) tl x th)
      by_parts leaf None sh o few same =
          at_once before (without gone h) _ _ (joined_by_sits s x l h tl leaf sl (sits h leaf sh) few)
          (λ n. omega (arith, same n, keeps_beside n (light_side s) x tl leaf, taken_leaves n gone h leaf sh))
      by_parts leaf (Some p) sh o few same = absurd o
      by_parts (node q a y b) None sh o few same = absurd o
      by_parts (node q a y b) (Some p) sh o few same =
          turned_over_lifts before (without gone h) s x l p tl q a y b sl o (omega arith) (λ n. omega (arith, same n, taken_leaves n gone h (node q a y b) sh))

  -- THE BALANCE RULE

  pub rotated_lifts :
      (before : ℕ → ℕ) (gone : List (Numbered K)) (o : Label) (x : Region K) (l r : Seen K) (tl tr : Tree Label (Region K)) →
      Shows cs l tl → Shows cs r tr → count tl + count tr < 65535 → ((n : ℕ) → leaves n gone + (keeps n tl + keeps n tr) ≡ before n) →
      Treated cs before gone o x l r tl tr (balance o tl x tr) (heavy_side (weight l) (weight r))
  unfolding heavy_side rotated
  rotated_lifts before gone o x l r tl tr sl sr few same =
      subst (λ a. Told a (weight r)) (sym sl.weighs) (subst (λ b. Told (weight_of tl) b) (sym sr.weighs) (by_rule (too_heavy tr tl) (too_heavy tl tr)))
    where
      Told : ℕ → ℕ → Type 0
      Told a b = Treated cs before gone o x l r tl tr (balance o tl x tr) (cond (ltb (3 * a) b) (Some Right) (cond (ltb (3 * b) a) (Some Left) None))

      by_rule : (b c : Bool) → Treated cs before gone o x l r tl tr (balance_by b c o tl x tr) (cond b (Some Right) (cond c (Some Left) None))
      by_rule true c = turned_lifts before gone Right x l r tl tr (sits l tl sl) sr few same
      by_rule false true = turned_lifts before gone Left x r l tr tl (sits r tr sr) sl (omega arith) (λ n. omega (arith, same n))
      by_rule false false = refl

  pub balanced_lifts :
      (before : ℕ → ℕ) (gone : List (Numbered K)) (x : Region K) (l r : Seen K) (tl tr : Tree Label (Region K)) →
      Shows cs l tl → Shows cs r tr → count tl + count tr < 65535 → ((n : ℕ) → leaves n gone + (keeps n tl + keeps n tr) ≡ before n) →
      Lifted cs before gone (balanced cs gone x l r) (balance new tl x tr)
  unfolding balanced
  balanced_lifts before gone x l r tl tr sl sr few same =
      by_side (heavy_side (weight l) (weight r)) (rotated_lifts before gone new x l r tl tr sl sr few same)
    where
      by_side :
          (s : Option Lean) → Treated cs before gone new x l r tl tr (balance new tl x tr) s →
          Lifted cs before gone (balanced_by s cs gone x l r) (balance new tl x tr)
      by_side None e =
          rw e (at_once before gone (joined x l r) (node new tl x tr) (joined_sits x l r tl tr (sits l tl sl) (sits r tr sr) few) (λ n. omega (arith, same n)))
      by_side (Some s) h = h
