-- What a region overlaps is on the path of its low key.
use Rattle.std.proofs.Common.{◌≡◌, ℕ, Bool, true, false, ◌||◌, T, List, [], ◌∷◌, ◌++◌, refl, ap, ◌∙◌, arith}
use Rattle.trees.specs.Regions.{Ranges, Laws, below, upto, holds, Region, RegionSet, overlap, overlaps}
use Rattle.trees.specs.Trees.{Turn, to_left, here, to_right, at_turn, Tree, leaf, node, inorder, seek, visited}
use Rattle.trees.proofs.Risings.{All, Ahead, Behind, Rising, Mid, rising_mid, all_mid}
use Rattle.trees.proofs.Orders.{below_upto, below_not_upto, below_chain, upto_below, chain, left_says, right_says, here_says, holds_low, holds_high, Before, before_low, firm, firm_rises, firm_regions}

module _ {K R : Type 0} (g : Ranges K R) (laws : Laws g) (x : R) (rx : Region g x) where
  overlaps_append : (ys zs : List R) → overlaps g x (ys ++ zs) ≡ overlaps g x ys || overlaps g x zs
  overlaps_append [] zs = refl
  overlaps_append (y ∷ ys) zs = step (overlaps_append ys zs)
    where
      step : overlaps g x (ys ++ zs) ≡ overlaps g x ys || overlaps g x zs → overlap g x y || overlaps g x (ys ++ zs) ≡ (overlap g x y || overlaps g x ys) || overlaps g x zs
      step e = grind arith

  -- past a region that begins above its low key it overlaps none but if it overlaps that one too
  later : (y : R) (zs : List R) → Region g y → T (below g (g.low x) (g.low y)) → Ahead (Before g laws) y zs → overlaps g x zs ≡ true → overlap g x y ≡ true
  later y [] ry h a e = let w : ◌≡◌ {A = ℕ} 0 1 = cc in absurd (omega arith)
  later y (z ∷ zs) ry h a e = by_test (overlap g x z) refl e (later y zs ry h a.1)
    where
      one : overlap g x z ≡ true → overlap g x y ≡ true
      one o =
          grind (
            arith,
            upto_below g laws (g.low y) (g.low z) (g.high x) ry.low_formed a.0.second.low_formed rx.high_formed (before_low g laws y z a.0),
            below_chain g laws (g.low x) (g.low y) (g.high y) rx.low_formed ry.low_formed ry.high_formed h (below_upto g laws (g.low y) (g.high y) ry.rises),
          )

      by_test : (b : Bool) → overlap g x z ≡ b → b || overlaps g x zs ≡ true → (overlaps g x zs ≡ true → overlap g x y ≡ true) → overlap g x y ≡ true
      by_test true o e ih = one o
      by_test false o e ih = ih e

  -- what ends before its low key it does not overlap
  ended : (y : R) → Region g y → T (upto g (g.high y) (g.low x)) → overlap g x y ≡ false
  ended y ry h = grind (arith, below_not_upto g laws (g.low x) (g.high y) rx.low_formed ry.high_formed)

  all_ended : (y : R) (zs : List R) → Region g y → T (upto g (g.high y) (g.low x)) → Behind (Before g laws) zs y → overlaps g x zs ≡ false
  all_ended y [] ry h b = refl
  all_ended y (z ∷ zs) ry h b =
      let u = below_upto g laws (g.low y) (g.high y) ry.rises in
      let v =
      chain g laws (g.high z) (g.low y) (g.low x) b.0.first.high_formed ry.low_formed rx.low_formed b.0.gap
      (chain g laws (g.low y) (g.high y) (g.low x) ry.low_formed ry.high_formed rx.low_formed u h) in
      rw (ended z b.0.first v) (all_ended y zs ry h b.1)

  -- it overlaps what holds its low key
  held : (y : R) → Region g y → holds g y (g.low x) ≡ true → overlap g x y ≡ true
  held y ry h =
      grind (
        arith,
        holds_high g laws (g.low x) y h,
        upto_below g laws (g.low y) (g.low x) (g.high x) ry.low_formed rx.low_formed rx.high_formed (holds_low g laws (g.low x) y h) rx.rises,
      )

  on_path :
      {L : Type 0} (t : Tree L R) → All (Region g) (inorder t) → Rising (Before g laws) (inorder t) →
      overlaps g x (inorder t) ≡ overlaps g x (visited (seek g (g.low x)) t)
  on_path leaf a h = refl
  on_path (node o l y r) a h =
      let m = rising_mid (Before g laws) (inorder l) y (inorder r) h in
      let c = all_mid (Region g) (inorder l) y (inorder r) a in
      overlaps_append (inorder l) (y ∷ inorder r)
      ∙ by_turn (seek g (g.low x) y) refl m c.1 (on_path l c.0 m.fore) (on_path r c.2 m.aft)
    where
      left_only : (a b c : Bool) → (c ≡ true → b ≡ true) → a || (b || c) ≡ b || a
      left_only a b c h = grind arith

      by_turn :
          (v : Turn) → seek g (g.low x) y ≡ v → Mid (Before g laws) (inorder l) y (inorder r) → Region g y →
          overlaps g x (inorder l) ≡ overlaps g x (visited (seek g (g.low x)) l) → overlaps g x (inorder r) ≡ overlaps g x (visited (seek g (g.low x)) r) →
          overlaps g x (inorder l) || (overlap g x y || overlaps g x (inorder r))
          ≡ overlaps g x (y ∷ at_turn v (visited (seek g (g.low x)) l) [] (visited (seek g (g.low x)) r))
      by_turn to_left e m ry p q =
          left_only (overlaps g x (inorder l)) (overlap g x y) (overlaps g x (inorder r)) (later y (inorder r) ry (left_says g laws (g.low x) y e) m.ahead)
          ∙ ap (λ (b : Bool). overlap g x y || b) p
      by_turn here e m ry p q = let o = held y ry (here_says g laws (g.low x) y e) in rw o (grind arith)
      by_turn to_right e m ry p q =
          let u = right_says g laws (g.low x) y rx.low_formed ry e in
          rw (all_ended y (inorder l) ry u m.behind, ended y ry u) q

module _ {K R : Type 0} (g : Ranges K R) (laws : Laws g) where
  pub overlap_on_path :
      (t : Tree ℕ R) (x : R) → RegionSet g (inorder t) → Region g x → overlaps g x (inorder t) ≡ overlaps g x (visited (seek g (g.low x)) t)
  overlap_on_path t x s r =
      let f = firm g laws (inorder t) s in
      on_path g laws x r t (firm_regions g laws (inorder t) f) (firm_rises g laws (inorder t) f)
