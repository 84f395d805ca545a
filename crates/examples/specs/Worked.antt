-- Worked examples, over the definitions that the contracts cite.
use Rattle.std.specs.Prelude.{◌≡◌, ℕ, ◌-◌, List, [], ◌∷◌, ◌++◌, length, replicate, ℤ, pos, negsuc, Some, None, Ok, codes, Result, ◌≢◌}
use Rattle.std.specs.declared.cmp.Ordering.{Ordering}
use Rattle.std.specs.declared.cmp.Ordering.TheVariants.{Less, Equal}
use Rattle.keys.specs.declared.decimal.Decimal.{Decimal}
use Rattle.keys.specs.declared.decimal.DecimalFault.{DecimalFault}
use Rattle.keys.specs.declared.decimal.DecimalFault.TheVariants.{Coefficient, Scale}
use Rattle.keys.specs.declared.text.Text.{Text}
use Rattle.keys.specs.declared.text.TextFault.{TextFault}
use Rattle.keys.specs.Orders.{compared}
use Rattle.keys.specs.Decimals.{decimal_fault, decimal_order}
use Rattle.keys.specs.Texts.{text_fault, text_order, text_filler}
use Rattle.trees.specs.Trees.{leaf}
use Rattle.trees.specs.Edits.{Drop}
use Rattle.examples.specs.Shapes.{SizesBalanced, none, top, only, shape, puts, after, one_to_six}

abbrev pub decimal : ℤ → ℕ → Decimal
decimal coefficient scale = record { scale = scale; coefficient = coefficient }

abbrev pub text : List ℕ → Text
text bs = record { len = length bs; bytes = bs ++ replicate (16 - length bs) 0 }

-- what comparing two decimals, or two texts, answers
abbrev pub compare_decimals : Decimal → Decimal → Result Ordering DecimalFault
compare_decimals a b = compared (decimal_fault a) (decimal_fault b) (decimal_order a b)

abbrev pub compare_texts : Text → Text → Result Ordering TextFault
compare_texts a b = compared (text_fault a) (text_fault b) (text_order a b)

pub record Worked : Type 0 where
  -- 1.50 is the same as 1.5
  pub same_value : compare_decimals (decimal (pos 150) 2) (decimal (pos 15) 1) ≡ Ok Equal
  -- −1 is below −0.000000001
  pub below_zero : compare_decimals (decimal (negsuc 0) 0) (decimal (negsuc 0) 9) ≡ Ok Less
  -- a coefficient and a scale out of range, and the largest of both
  pub coefficient_high : decimal_fault (decimal (pos 1000000000) 0) ≡ Some (Coefficient (pos 1000000000))
  pub scale_high : decimal_fault (decimal (pos 0) 10) ≡ Some (Scale 10)
  pub largest : decimal_fault (decimal (pos 999999999) 9) ≡ None
  -- a text that begins another is below it
  pub prefix : compare_texts (text (codes "ab")) (text (codes "abc")) ≡ Ok Less
  -- the empty text is below every other well-formed text of 16 bytes
  pub empty_first : (t : Text) → length t.bytes ≡ 16 → text_fault t ≡ None → (t ≢ text_filler) → compare_texts text_filler t ≡ Ok Less
  -- sides of sizes 0 and 2 are balanced, 0 and 3 not; 1 and 5 are, 1 and 6 not
  pub sizes : SizesBalanced 0 2 × (SizesBalanced 0 3 → ⊥) × SizesBalanced 1 5 × (SizesBalanced 1 6 → ⊥)
  -- what puts and a drop build, every edit finished
  pub puts_one_to_six : shape one_to_six ≡ top 2 (only 1) (top 4 (only 3) (top 5 none (only 6)))
  pub puts_one_five_three_four : shape (puts (1 ∷ 5 ∷ 3 ∷ 4 ∷ []) leaf) ≡ top 3 (only 1) (top 5 (only 4) none)
  pub drop_two : shape (after (Drop 2) one_to_six) ≡ top 3 (only 1) (top 4 none (top 5 none (only 6)))
