-- The order of byte lists by their first difference is the standard one of slices: the three laws, and what each answer tells.
use Rattle.std.specs.Prelude.{◌≡◌, ℕ, suc, ◌<◌, Bool, true, false, cond, List, [], ◌∷◌, take, ◌==◌, refl}
use Rattle.std.proofs.Common.{sym, ap, ◌∙◌, subst, arith}
use Rattle.std.specs.declared.cmp.Ordering.{Ordering}
use Rattle.std.specs.declared.cmp.Ordering.TheVariants.{Less, Equal, Greater}
use Rattle.std.specs.Ordering.{nat_cmp, ordering_then, MatchOrdering}
use Rattle.std.specs.Cmp.{IsTotalOrder}
use Rattle.std.specs.Cmp.Lexicographic.{slice_cmp}
use Rattle.std.proofs.lemmas.Cmp.{ranked, tied_itself, alike_right, nat_list_cmp_total}
use Rattle.std.proofs.lemmas.Bool.Decides.{nat_tests}
use Rattle.keys.specs.Orders.{reversed, NotAbove, orderℕ}
use Rattle.keys.specs.Texts.{first_difference, rank, order_bytes}
use Rattle.keys.specs.Meanings.{Tells, Before}

-- where the heads are the same the rest decides, else the heads do
same_head : (x y : ℕ) (o : Ordering) → (x == y) ≡ true → o ≡ ordering_then (nat_cmp x y) o
same_head x y o h = grind (arith, nat_tests)

other_head : (x y : ℕ) (o : Ordering) → (x == y) ≡ false → orderℕ (suc x) (suc y) ≡ ordering_then (nat_cmp x y) o
other_head x y o h = grind (arith, nat_tests)

by_head : (x y d : ℕ) (xs ys : List ℕ) (o : Ordering) (b : Bool) → (x == y) ≡ b → orderℕ (rank xs d) (rank ys d) ≡ o →
    orderℕ (rank (x ∷ xs) (cond b (suc d) 0)) (rank (y ∷ ys) (cond b (suc d) 0)) ≡ ordering_then (nat_cmp x y) o
by_head x y d xs ys o true h e = e ∙ same_head x y o h
by_head x y d xs ys o false h e = other_head x y o h

below_any : (y : ℕ) → orderℕ 0 (suc y) ≡ Less
below_any y = grind (arith, nat_tests)

above_end : (x : ℕ) → orderℕ (suc x) 0 ≡ Greater
above_end x = grind (arith, nat_tests)

pub order_is : (a b : List ℕ) → order_bytes a b ≡ slice_cmp nat_cmp a b
unfolding order_bytes
order_is [] [] = refl
order_is [] (y ∷ ys) = below_any y
order_is (x ∷ xs) [] = above_end x
order_is (x ∷ xs) (y ∷ ys) = by_head x y (first_difference xs ys) xs ys (slice_cmp nat_cmp xs ys) (x == y) refl (order_is xs ys)

-- 'not above' chains in every total order
module _ {K : Type 0} {R : K → K → Ordering} (o : IsTotalOrder R) where
  chained : (a b c : K) (p q : Ordering) → R a b ≡ p → R b c ≡ q → NotAbove p → NotAbove q → NotAbove (R a c)
  chained a b c Less Less e f h k = subst NotAbove (sym (o.trans a b c e f)) tt
  chained a b c Less Equal e f h k = subst NotAbove (sym e ∙ alike_right o b c a f) tt
  chained a b c Less Greater e f h k = elim k [ ]
  chained a b c Equal q e f h k = subst NotAbove (sym (o.congr a b c e ∙ f)) k
  chained a b c Greater q e f h k = elim h [ ]

-- the three laws
pub bytes_reflexive : (a : List ℕ) → order_bytes a a ≡ Equal
bytes_reflexive a = order_is a a ∙ tied_itself nat_list_cmp_total a

pub bytes_reversal : (a b : List ℕ) → order_bytes b a ≡ reversed (order_bytes a b)
bytes_reversal a b = order_is b a ∙ nat_list_cmp_total.antisymm b a ∙ ap reversed (sym (order_is a b))

pub bytes_transitive : (a b c : List ℕ) → NotAbove (order_bytes a b) → NotAbove (order_bytes b c) → NotAbove (order_bytes a c)
bytes_transitive a b c h k =
    subst NotAbove (sym (order_is a c)) (chained nat_list_cmp_total a b c (order_bytes a b) (order_bytes b c) (sym (order_is a b)) (sym (order_is b c)) h k)

-- what each answer says
one_more : (x y : ℕ) (a b : List ℕ) → x ≡ y → Before a b → Before (x ∷ a) (y ∷ b)
one_more x y a b e p = (suc p.0, (ap (λ n. n ∷ take p.0 a) e ∙ ap (λ l. y ∷ l) p.1.0, p.1.1))

head_less : (x y : ℕ) (a b : List ℕ) → x < y → Before (x ∷ a) (y ∷ b)
head_less x y a b h = (0, (refl, omega arith))

grown : (o : Ordering) (x y : ℕ) (a b : List ℕ) → x ≡ y → Tells Before o a b → Tells Before o (x ∷ a) (y ∷ b)
grown Less x y a b e p = one_more x y a b e p
grown Equal x y a b e p = ap (λ n. n ∷ a) e ∙ ap (λ l. y ∷ l) p
grown Greater x y a b e p = one_more y x b a (sym e) p

by_heads : (x y : ℕ) (a b : List ℕ) (o p : Ordering) → MatchOrdering o (x < y) (x ≡ y) (y < x) → Tells Before p a b → Tells Before (ordering_then o p) (x ∷ a) (y ∷ b)
by_heads x y a b Less p h s = head_less x y a b h
by_heads x y a b Equal p h s = grown p x y a b h s
by_heads x y a b Greater p h s = head_less y x b a h

stands : (a b : List ℕ) → Tells Before (slice_cmp nat_cmp a b) a b
stands [] [] = refl
stands [] (y ∷ ys) = (0, (refl, omega arith))
stands (x ∷ xs) [] = (0, (refl, omega arith))
stands (x ∷ xs) (y ∷ ys) = by_heads x y xs ys (nat_cmp x y) (slice_cmp nat_cmp xs ys) (ranked x y (nat_cmp x y) refl) (stands xs ys)

pub bytes_stand : (a b : List ℕ) → Tells Before (order_bytes a b) a b
bytes_stand a b = subst (λ o. Tells Before o a b) (sym (order_is a b)) (stands a b)
