-- What balance keeps, and that it balances: the theorem of Hirai and Yamamoto for the factors 3 and 2.
use Rattle.std.proofs.Common.{◌≡◌, suc, ◌+◌, Bool, true, false, ◌∷◌, ◌++◌, refl, append_assoc, arith}
use Rattle.trees.specs.Trees.{Side, left, right, Tree, leaf, node, beside, inorder, count, weight, Balanced}
use Rattle.trees.specs.Rotations.{Label, new, rotate, too_heavy, balance_by, balance, Nearly}

module _ {R : Type 0} where
  rotate_order : (s : Side) (t : Tree Label R) (x : R) (u : Tree Label R) → inorder (rotate s t x u) ≡ inorder (beside s new t x u)
  rotate_order left t x leaf = refl
  rotate_order left t x (node o leaf y b) = grind (arith, append_assoc)
  rotate_order left t x (node o (node p c z d) y b) = grind (arith, append_assoc)
  rotate_order right t x leaf = refl
  rotate_order right t x (node o a y leaf) = grind (arith, append_assoc)
  rotate_order right t x (node o a y (node p c z d)) = grind (arith, append_assoc)

  pub balance_order : (o : Label) (l : Tree Label R) (x : R) (r : Tree Label R) → inorder (balance o l x r) ≡ inorder l ++ (x ∷ inorder r)
  balance_order o l x r = by_rule (too_heavy r l) (too_heavy l r)
    where
      by_rule : (b c : Bool) → inorder (balance_by b c o l x r) ≡ inorder l ++ (x ∷ inorder r)
      by_rule true c = rotate_order left l x r
      by_rule false true = rotate_order right r x l
      by_rule false false = refl

  pub balance_count : (o : Label) (l : Tree Label R) (x : R) (r : Tree Label R) → count (balance o l x r) ≡ suc (count l + count r)
  balance_count o l x r = grind arith

  -- Both sides are balanced, and the pair is even but for one insertion or one deletion.
  pub balance_balanced :
      (o : Label) (l : Tree Label R) (x : R) (r : Tree Label R) →
      Nearly 3 (weight l) (weight r) → Balanced l → Balanced r → Balanced (balance o l x r)
  balance_balanced o l x r near bl br = grind arith
