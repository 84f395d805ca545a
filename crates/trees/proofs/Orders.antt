-- From the three laws on well-formed keys to what trees and region sets need of the order.
use Rattle.std.proofs.Common.{◌≡◌, true, false, T, ◌⊎◌, List, [], ◌∷◌, None, Option, refl, inl, inr, arith}
use Rattle.std.specs.declared.cmp.Ordering.{Ordering}
use Rattle.std.specs.declared.cmp.Ordering.TheVariants.{Less, Equal, Greater}
use Rattle.std.specs.Ordering.{is_le}
use Rattle.keys.specs.Orders.{reversed, NotAbove}
use Rattle.trees.specs.Regions.{Ranges, ranges, Laws, below, upto, holds, Region, EndsBefore, RegionSet}
use Rattle.trees.specs.Trees.{Turn, to_left, here, to_right, seek}
use Rattle.trees.proofs.Risings.{All, PartsWays, Ahead, Rising}

-- a kind of keys that keeps the three laws
pub lawful :
    {K F R : Type 0} (fault : K → Option F) (order : K → K → Ordering) (low high : R → K) → ((a : K) → fault a ≡ None → order a a ≡ Equal) →
    ((a b : K) → fault a ≡ None → fault b ≡ None → order b a ≡ reversed (order a b)) →
    ((a b c : K) → fault a ≡ None → fault b ≡ None → fault c ≡ None → NotAbove (order a b) → NotAbove (order b c) → NotAbove (order a c)) →
    Laws (ranges fault order low high)
lawful fault order low high p q r = record { reflexive = p; reversal = q; transitive = r }

never_above : (o : Ordering) → T (is_le o) → NotAbove o
never_above Less h = tt
never_above Equal h = tt
never_above Greater h = absurd h

above_never : (o : Ordering) → NotAbove o → T (is_le o)
above_never Less h = tt
above_never Equal h = tt
above_never Greater h = absurd h

module _ {K R : Type 0} (g : Ranges K R) (laws : Laws g) where
  pub chain : (a b c : K) → g.Formed a → g.Formed b → g.Formed c → T (upto g a b) → T (upto g b c) → T (upto g a c)
  chain a b c p q s h k =
      above_never (g.order a c) (laws.transitive a b c p q s (never_above (g.order a b) h) (never_above (g.order b c) k))

  pub below_upto : (a b : K) → T (below g a b) → T (upto g a b)
  below_upto a b h = grind arith

  pub below_not_upto : (a b : K) → g.Formed a → g.Formed b → T (below g a b) → T (upto g b a) → ⊥
  below_not_upto a b p q h k = grind (arith, laws.reversal a b p q)

  pub not_below : (a b : K) → g.Formed a → g.Formed b → below g a b ≡ false → T (upto g b a)
  not_below a b p q h = grind (arith, laws.reversal a b p q)

  pub below_chain : (a b c : K) → g.Formed a → g.Formed b → g.Formed c → T (below g a b) → T (upto g b c) → T (below g a c)
  below_chain a b c p q s h k = grind (arith, laws.reversal a c p s, laws.reversal a b p q, chain b c a q s p)

  pub upto_below : (a b c : K) → g.Formed a → g.Formed b → g.Formed c → T (upto g a b) → T (below g b c) → T (below g a c)
  upto_below a b c p q s h k = grind (arith, laws.reversal a c p s, laws.reversal b c q s, chain c a b s p q)

  pub upto_self : (a : K) → g.Formed a → T (upto g a a)
  upto_self a p = rw (laws.reflexive a p) tt

  -- WHAT A TURN SAYS

  pub left_if : (k : K) (x : R) → g.Formed k → g.Formed (g.low x) → T (below g k (g.low x)) → seek g k x ≡ to_left
  left_if k x p q h = grind (arith, below_not_upto k (g.low x) p q h)

  pub right_if : (k : K) (x : R) → g.Formed k → Region g x → T (upto g (g.high x) k) → seek g k x ≡ to_right
  right_if k x p r h =
      let l = chain (g.low x) (g.high x) k r.low_formed r.high_formed p (below_upto (g.low x) (g.high x) r.rises) h in
      grind (arith, below_not_upto k (g.low x) p r.low_formed, below_not_upto k (g.high x) p r.high_formed)

  pub left_says : (k : K) (x : R) → seek g k x ≡ to_left → T (below g k (g.low x))
  left_says k x e = grind arith

  pub right_says : (k : K) (x : R) → g.Formed k → Region g x → seek g k x ≡ to_right → T (upto g (g.high x) k)
  right_says k x p r e = grind (arith, not_below k (g.low x) p r.low_formed, not_below k (g.high x) p r.high_formed)

  pub here_says : (k : K) (x : R) → seek g k x ≡ here → holds g x k ≡ true
  here_says k x e = grind arith

  pub holds_low : (k : K) (x : R) → holds g x k ≡ true → T (upto g (g.low x) k)
  holds_low k x e = grind arith

  pub holds_high : (k : K) (x : R) → holds g x k ≡ true → T (below g k (g.high x))
  holds_high k x e = grind arith

  -- ONE REGION BEFORE ANOTHER

  pub record Before (x y : R) : Type 0 where
    pub first : Region g x
    pub second : Region g y
    pub gap : T (upto g (g.high x) (g.low y))

  pub before_low : (x y : R) → Before x y → T (upto g (g.low x) (g.low y))
  before_low x y b =
      chain (g.low x) (g.high x) (g.low y) b.first.low_formed b.first.high_formed b.second.low_formed
      (below_upto (g.low x) (g.high x) b.first.rises) b.gap

  pub before_chain : (x y z : R) → Before x y → Before y z → Before x z
  before_chain x y z a b = record {
    first = a.first;
    second = b.second;
    gap = chain (g.high x) (g.low y) (g.low z) a.first.high_formed a.second.low_formed b.second.low_formed a.gap (before_low y z b);
  }

  -- a search goes right at the first or left at the second
  pub ways : (k : K) → g.Formed k → PartsWays Before (seek g k)
  ways k p x y b = by_turn (seek g k x) refl
    where
      end : T (below g k (g.high x)) → seek g k y ≡ to_left
      end h = left_if k y p b.second.low_formed (below_chain k (g.high x) (g.low y) p b.first.high_formed b.second.low_formed h b.gap)

      by_turn : (v : Turn) → seek g k x ≡ v → (seek g k x ≡ to_right) ⊎ (seek g k y ≡ to_left)
      by_turn to_right e = inl e
      by_turn here e = inr (end (holds_high k x (here_says k x e)))
      by_turn to_left e =
          inr (end (below_chain k (g.low x) (g.high x) p b.first.low_formed b.first.high_formed (left_says k x e)
          (below_upto (g.low x) (g.high x) b.first.rises)))

  -- REGION SETS: each region is before all that follow

  abbrev pub Firm : List R → Type 0
  Firm [] = Unit {0}
  Firm (x ∷ xs) = Region g x × Ahead Before x xs × Firm xs

  pub firm_rises : (xs : List R) → Firm xs → Rising Before xs
  firm_rises [] f = tt
  firm_rises (x ∷ xs) f = (f.1, firm_rises xs f.2)

  pub firm_regions : (xs : List R) → Firm xs → All (Region g) xs
  firm_regions [] f = tt
  firm_regions (x ∷ xs) f = (f.0, firm_regions xs f.2)

  firm_ahead : (x : R) (ys : List R) → Region g x → EndsBefore g x ys → Firm ys → Ahead Before x ys
  firm_ahead x [] r e f = tt
  firm_ahead x (y ∷ ys) r e f =
      let b : Before x y = record { first = r; second = f.0; gap = e } in
      (b, further ys f.1 b)
    where
      further : (zs : List R) → Ahead Before y zs → Before x y → Ahead Before x zs
      further [] a b = tt
      further (z ∷ zs) a b = (before_chain x y z b a.0, further zs a.1 b)

  pub firm : (xs : List R) → RegionSet g xs → Firm xs
  firm [] s = tt
  firm (x ∷ xs) s = let f = firm xs s.2 in (s.0, firm_ahead x xs s.0 s.1 f, f)

  pub firm_set : (xs : List R) → Firm xs → RegionSet g xs
  firm_set [] f = tt
  firm_set (x ∷ xs) f = (f.0, next xs f.1, firm_set xs f.2)
    where
      next : (ys : List R) → Ahead Before x ys → EndsBefore g x ys
      next [] a = tt
      next (y ∷ ys) a = a.0.gap
