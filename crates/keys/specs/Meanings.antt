-- What the comparison of each kind tells, said as a relation.
use Rattle.std.specs.Prelude.{◌≡◌, ℕ, ◌<◌, List, take, ◌<ℤ◌}
use Rattle.std.specs.declared.cmp.Ordering.{Ordering}
use Rattle.std.specs.declared.cmp.Ordering.TheVariants.{Less, Equal, Greater}
use Rattle.keys.specs.declared.whole.Whole.{Whole}
use Rattle.keys.specs.declared.decimal.Decimal.{Decimal}
use Rattle.keys.specs.declared.text.Text.{Text}
use Rattle.keys.specs.Wholes.{whole_order}
use Rattle.keys.specs.Decimals.{decimal_order, scaled}
use Rattle.keys.specs.Texts.{text_order, text_bytes, rank}

-- what each answer says, where one relation stands for 'before'
abbrev pub Tells : {A : Type 0} → (A → A → Type 0) → Ordering → A → A → Type 0
Tells before Less a b = before a b
Tells before Equal a b = a ≡ b
Tells before Greater a b = before b a

-- two lists agree up to a place at which the first has the lower byte, or has ended while the second goes on
abbrev pub Before : List ℕ → List ℕ → Type 0
Before a b = (i : ℕ) × ((take i a ≡ take i b) × (rank a i < rank b i))

-- whole keys compare as numbers, decimals by their values, texts by their first difference
pub record ComparisonsTell : Type 0 where
  pub wholes : (a b : Whole) → Tells ◌<ℤ◌ (whole_order a b) a.0 b.0
  pub decimals : (a b : Decimal) → Tells ◌<ℤ◌ (decimal_order a b) (scaled a) (scaled b)
  pub texts : (a b : Text) → Tells Before (text_order a b) (text_bytes a) (text_bytes b)
