-- Keys in order, regions over them, and the region set: what it gives for a key, and what put, drop and split make of it.
use Rattle.std.specs.Prelude.{◌≡◌, ℕ, ◌+◌, Bool, true, false, cond, ◌&&◌, ◌||◌, T, List, [], ◌∷◌, ◌++◌, Some, None, Option}
use Rattle.std.specs.declared.cmp.Ordering.{Ordering}
use Rattle.std.specs.declared.cmp.Ordering.TheVariants.{Equal}
use Rattle.std.specs.Ordering.{is_lt, is_le}
use Rattle.keys.specs.Orders.{reversed, NotAbove}

-- Keys and regions over them: which keys are well formed, how two compare, and the low and the high key of a region.
-- What else a region carries does not matter here: it is passed along whole.
pub record Ranges (K R : Type 0) : Type 1 where
  pub Formed : K → Type 0
  pub order : K → K → Ordering
  pub low : R → K
  pub high : R → K

-- over a kind of keys: a key is well formed if it has no fault
abbrev pub ranges : {K F R : Type 0} → (K → Option F) → (K → K → Ordering) → (R → K) → (R → K) → Ranges K R
ranges fault order low high = record { Formed = λ a. fault a ≡ None; order = order; low = low; high = high }

module _ {K R : Type 0} (g : Ranges K R) where
  -- the three laws of the order, for well-formed keys
  pub record Laws : Type 0 where
    pub reflexive : (a : K) → g.Formed a → g.order a a ≡ Equal
    pub reversal : (a b : K) → g.Formed a → g.Formed b → g.order b a ≡ reversed (g.order a b)
    pub transitive :
        (a b c : K) → g.Formed a → g.Formed b → g.Formed c →
        NotAbove (g.order a b) → NotAbove (g.order b c) → NotAbove (g.order a c)

  abbrev pub below : K → K → Bool
  below a b = is_lt (g.order a b)

  abbrev pub upto : K → K → Bool
  upto a b = is_le (g.order a b)

  -- a region holds k if its low key is not above k and k is below its high key
  abbrev pub holds : R → K → Bool
  holds x k = upto (g.low x) k && below k (g.high x)

  -- REGION SETS, as lists

  -- well-formed keys, the low one below the high one
  pub record Region (x : R) : Type 0 where
    pub low_formed : g.Formed (g.low x)
    pub high_formed : g.Formed (g.high x)
    pub rises : T (below (g.low x) (g.high x))

  abbrev pub EndsBefore : R → List R → Type 0
  EndsBefore x [] = Unit {0}
  EndsBefore x (y ∷ ys) = T (upto (g.high x) (g.low y))

  -- regions rise, and no high key is above the next low key
  abbrev pub RegionSet : List R → Type 0
  RegionSet [] = Unit {0}
  RegionSet (x ∷ xs) = Region x × EndsBefore x xs × RegionSet xs

  -- what the set gives for a key: the region that holds it, or none
  abbrev pub gives : List R → K → Option R
  gives [] k = None
  gives (x ∷ xs) k = cond (holds x k) (Some x) (gives xs k)

  -- how many regions of the list hold a key
  abbrev pub holders : List R → K → ℕ
  holders [] k = 0
  holders (x ∷ xs) k = cond (holds x k) 1 0 + holders xs k

  -- two regions overlap if each begins below the other's end; touching is no overlap
  abbrev pub overlap : R → R → Bool
  overlap x y = below (g.low x) (g.high y) && below (g.low y) (g.high x)

  abbrev pub overlaps : R → List R → Bool
  overlaps x [] = false
  overlaps x (y ∷ ys) = overlap x y || overlaps x ys

  -- the set with a region added, at its place
  abbrev pub set_put : R → List R → List R
  set_put x [] = x ∷ []
  set_put x (y ∷ ys) = cond (below (g.low x) (g.low y)) (x ∷ (y ∷ ys)) (y ∷ set_put x ys)

  -- the set with the region x that holds k turned into the regions f x
  abbrev pub set_replace : K → (R → List R) → List R → List R
  set_replace k f [] = []
  set_replace k f (x ∷ xs) = cond (holds x k) (f x ++ xs) (x ∷ set_replace k f xs)

  -- the set without the region that holds k
  abbrev pub set_drop : K → List R → List R
  set_drop k xs = set_replace k (λ x. []) xs

  -- the set with the region that holds b turned into its lower and its upper part
  abbrev pub set_split : K → (R → R) → (R → R) → List R → List R
  set_split b lower upper xs = set_replace b (λ x. lower x ∷ (upper x ∷ [])) xs

  -- the two parts of a region at b: [low, b) and [b, high)
  pub record Parts (b : K) (lower upper : R → R) : Type 0 where
    pub lower_low : (x : R) → g.low (lower x) ≡ g.low x
    pub lower_high : (x : R) → g.high (lower x) ≡ b
    pub upper_low : (x : R) → g.low (upper x) ≡ b
    pub upper_high : (x : R) → g.high (upper x) ≡ g.high x
