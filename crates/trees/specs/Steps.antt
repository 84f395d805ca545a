-- What holds of every edit: of the region set, of the tree, and of both from one step to the next.
use Rattle.std.specs.Prelude.{◌≡◌, ℕ, ◌≤◌, Bool, false, cond, T, List, [], length, Some, None, Option, ◌≢◌, nat_eq}
use Rattle.std.specs.declared.cmp.Ordering.TheVariants.{Equal}
use Rattle.trees.specs.Regions.{Ranges, below, holds, Region, RegionSet, gives, holders, overlaps, Parts}
use Rattle.trees.specs.Trees.{Tree, inorder, count, height, Balanced, seek}
use Rattle.trees.specs.Edits.{Place, place, whole, Edit, Put, Drop, Split, Advance, Made, edited, set_after, Mending}
use Rattle.trees.specs.Paths.{inside, Distinct, KeepsPath, KeepsOrder, KeepsRegions, MadeAs, new_at}

module _ {K R : Type 0} (g : Ranges K R) where
  -- WHAT IS ASKED OF AN EDIT, beside that put, drop and split begin at rest: the keys are well formed; a put region overlaps none;
  -- the region that holds the key of a split does not begin there, and the parts that are given are its parts.
  abbrev pub Accepted : Edit K R → List R → Type 0
  Accepted (Put x) xs = Region g x × (overlaps g x xs ≡ false)
  Accepted (Drop k) xs = g.Formed k
  Accepted (Split b lower upper) xs =
      g.Formed b × Parts g b lower upper × ((x : R) → gives g xs b ≡ Some x → g.order (g.low x) b ≢ Equal)
  Accepted Advance xs = Unit {0}

  -- THE REGION SET

  -- what was given, but f of it where it holds j
  abbrev pub in_place : K → (R → Option R) → Option R → Option R
  in_place j f None = None
  in_place j f (Some x) = cond (holds g x j) (f x) (Some x)

  -- what the set gives for k after an edit, from what it gave before: the put region if it holds k; nothing in place of the
  -- dropped region; the part on the side of k in place of the split one
  abbrev pub given_after : Edit K R → K → Option R → Option R
  given_after (Put x) k was = cond (holds g x k) (Some x) was
  given_after (Drop j) k was = in_place j (λ x. None) was
  given_after (Split b lower upper) k was = in_place b (λ x. Some (cond (below g k b) (lower x) (upper x))) was
  given_after Advance k was = was

  -- at most one region holds a key; the set gives that one, and none only where none holds it
  pub record GivesOne (xs : List R) (k : K) : Type 0 where
    pub one : holders g xs k ≤ 1
    pub that_one : (x : R) → gives g xs k ≡ Some x → T (holds g x k)
    pub or_none : gives g xs k ≡ None → holders g xs k ≡ 0

  -- THE TREE

  -- put, drop and split begin at rest: no node is pending
  abbrev pub InTurn : Edit K R → Place ℕ R → Type 0
  InTurn (Put x) p = p.above ≡ []
  InTurn (Drop k) p = p.above ≡ []
  InTurn (Split b lower upper) p = p.above ≡ []
  InTurn Advance p = Unit {0}

  -- the tree of numbered nodes with its pending nodes: in order it is a region set, no number is there twice, and all of it is
  -- balanced but for the pending nodes
  pub record Stands (p : Place ℕ R) : Type 0 where
    pub set : RegionSet g (inorder (whole p))
    pub distinct : Distinct (whole p)
    pub mending : Mending p

  -- what an edit makes, numbered: new nodes are at numbers that were free, no two at the same
  pub record Numbers (free : ℕ → Bool) (p : Place ℕ R) (made : Made R) (t : Tree ℕ R) : Type 0 where
    pub numbered : MadeAs (λ n. T (free n)) made.grown t
    pub was_free : (n : ℕ) → T (free n) → inside (nat_eq n) (whole p) ≡ 0
    pub once : (n : ℕ) → new_at n made.grown t ≤ 1

  -- from the tree at p to the tree at p', by the edit e
  pub record StepsWell (e : Edit K R) (p p' : Place ℕ R) : Type 0 where
    pub stands : Stands p'
    -- in order it is the region set after the edit, and so has as many nodes
    pub spells : inorder (whole p') ≡ set_after g e (inorder (whole p))
    pub counts : count (whole p') ≡ length (set_after g e (inorder (whole p)))
    -- for every key: a node on the key's path that stays in the tree stays on the path, and two such nodes keep their order
    pub paths : (k : K) → g.Formed k → KeepsPath (seek g k) (whole p) (whole p')
    pub orders : (k : K) → g.Formed k → KeepsOrder (seek g k) (whole p) (whole p')
    pub regions : KeepsRegions (whole p) (whole p')
    -- at rest it is balanced, and with at most 3,968 nodes at most 27 are on any path
    pub balanced : p'.above ≡ [] → Balanced (whole p')
    pub low : p'.above ≡ [] → count (whole p') ≤ 3968 → height (whole p') ≤ 27

  -- every edit that is accepted in its turn takes a tree that stands to one that stands
  abbrev pub EveryStep : Type 0
  EveryStep =
      (free : ℕ → Bool) (e : Edit K R) (p : Place ℕ R) (t : Tree ℕ R) → Stands p → InTurn e p → Accepted e (inorder (whole p)) →
      Numbers free p (edited g e p) t → StepsWell e p (place (edited g e p).above t)
