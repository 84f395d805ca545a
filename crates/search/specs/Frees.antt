-- The free nodes of the pool: the nodes past the 32 seats, up to N, that have mark 0.
use Rattle.std.specs.Prelude.{◌≡◌, ℕ, zero, suc, ◌+◌, ◌-◌, ◌<◌, ◌≤◌, min, cond, List, [], ◌∷◌, ◌++◌, length, drop, Ok, Err, Result, ◌==◌, ◌≢◌}
use Rattle.store.specs.declared.fault.StoreFault.{StoreFault}
use Rattle.store.specs.Cells.{Cell, mark_answer}
use Rattle.stacks.specs.Held.{held}
use Rattle.search.specs.declared.free.Found.{Found}

-- a number differs from each of a list
abbrev pub Apart : ℕ → List ℕ → Type 0
Apart n [] = Unit {0}
Apart n (m ∷ ms) = (n ≢ m) × Apart n ms

-- a node, if its mark is 0
abbrev pub if_free : ℕ → Result ℕ StoreFault → List ℕ
if_free n (Ok m) = cond (m == 0) (n ∷ []) []
if_free n (Err e) = []

module _ {K : Type 0} where
  -- the free ones of the k nodes from `from` on, in order
  unfoldable pub frees : List (Cell K) → ℕ → ℕ → List ℕ
  frees cs from zero = []
  frees cs from (suc k) = frees cs from k ++ if_free (from + k) (mark_answer cs (from + k))

  -- the last node of the pool: N, or the last number that a link can hold
  abbrev pub pool_end : List (Cell K) → ℕ
  pool_end cs = min (length cs) 65535

  -- how many nodes of the pool are free
  unfoldable pub free_count : List (Cell K) → ℕ
  free_count cs = length (frees cs 33 (pool_end cs - 32))

  -- a free node of the pool
  abbrev pub FreeNode : List (Cell K) → ℕ → Type 0
  FreeNode cs n = (33 ≤ n) × (mark_answer cs n ≡ Ok 0)

  -- numbers that may be taken: each a free node of the pool, none twice
  abbrev pub Chosen : List (Cell K) → List ℕ → Type 0
  Chosen cs [] = Unit {0}
  Chosen cs (n ∷ ns) = FreeNode cs n × (Apart n ns × Chosen cs ns)

-- the numbers found
abbrev pub found_of : Found → List ℕ
found_of f = held f.numbers

-- the numbers found that were not used yet
abbrev pub left_of : Found → List ℕ
left_of f = drop f.used (found_of f)

module _ {K : Type 0} where
  -- a stretch of the search: the free ones of the next `many` nodes came to the others, and it went on until all were seen or there were enough
  pub record Gathers (cs : List (Cell K)) (from most want : ℕ) (before after : List ℕ) : Type 0 where
    pub many : ℕ
    pub within : many ≤ most
    pub found : after ≡ before ++ frees cs from many
    pub few : length after ≤ want
    pub stopped : length after < want → many ≡ most

  -- what a search for `want` free nodes finds: as many as there are, up to `want`
  pub record Finds (cs : List (Cell K)) (want : ℕ) (ns : List ℕ) : Type 0 where
    pub chosen : Chosen cs ns
    pub many : length ns ≡ min want (free_count cs)
