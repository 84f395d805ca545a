-- The tree that an edit builds, as a value: nodes of the memory as it was, and new nodes over them.
use Rattle.std.specs.Prelude.{ℕ, ◌+◌, ◌-◌, ◌*◌, min, Bool, true, false, cond, List, [], ◌∷◌, ◌++◌, Some, None, Ok, Err, Option, Result, ◌==◌, nat_lt}
use Rattle.store.specs.Nodes.{region_of}
use Rattle.store.specs.declared.node.Node.{Node}
use Rattle.store.specs.declared.fault.StoreFault.{StoreFault}
use Rattle.store.specs.Cells.{Cell, read_answer}
use Rattle.store.specs.declared.node.Region.{Region}
use Rattle.drafts.specs.declared.link.Numbered.{Numbered}
use Rattle.drafts.specs.declared.link.Lean.{Lean}
use Rattle.drafts.specs.declared.link.Lean.TheVariants.{Right, Left}

-- one step after another, where each may be refused
abbrev pub bind : {A B E : Type 0} → Result A E → (A → Result B E) → Result B E
bind (Ok a) f = f a
bind (Err e) f = Err e

-- a node of the memory by its number, 0 being none; or a new node with its size, its region and its sides
pub data Grown (K : Type 0) : Type 0 where
  kept : ℕ → Grown K
  built : ℕ → Region K → Grown K → Grown K → Grown K

-- a tree of which the top was looked at
pub data Seen (K : Type 0) : Type 0 where
  nothing : Seen K
  stored : Numbered K → Seen K
  fresh : ℕ → Region K → Grown K → Grown K → Seen K

-- a top taken apart
pub record Parts (K : Type 0) : Type 0 where
  pub region : Region K
  pub left : Grown K
  pub right : Grown K

-- a tree that was built, and the nodes of the memory that were taken apart for it, in this order
pub record Built (K : Type 0) : Type 0 where
  pub top : Seen K
  pub gone : List (Numbered K)

-- the size over two sides of the weights a and b; sizes are added with a cap, since a size has 16 bits
abbrev pub size_over : ℕ → ℕ → ℕ
size_over a b = min (a + b - 1) 65535

module _ {K : Type 0} where
  unfoldable pub tree : Seen K → Grown K
  tree nothing = kept 0
  tree (stored p) = kept p.number
  tree (fresh s x l r) = built s x l r

  -- one more than the size
  unfoldable pub weight : Seen K → ℕ
  weight nothing = 1
  weight (stored p) = p.node.size + 1
  weight (fresh s x l r) = s + 1

  unfoldable pub opened : Seen K → Option (Parts K)
  opened nothing = None
  opened (stored p) = Some (record { region = region_of p.node; left = kept p.node.left; right = kept p.node.right })
  opened (fresh s x l r) = Some (record { region = x; left = l; right = r })

  -- a node of the memory that is taken apart leaves; a new one was never in it
  unfoldable pub without : List (Numbered K) → Seen K → List (Numbered K)
  without gone nothing = gone
  without gone (stored p) = gone ++ (p ∷ [])
  without gone (fresh s x l r) = gone

  abbrev pub node_seen : ℕ → Result (Node K) StoreFault → Result (Seen K) StoreFault
  node_seen n (Ok v) = Ok (stored (record { number = n; node = v }))
  node_seen n (Err e) = Err e

  -- a look at a tree: one read at a node of the memory, none elsewhere
  unfoldable pub seen : List (Cell K) → Grown K → Result (Seen K) StoreFault
  seen cs (kept n) = cond (n == 0) (Ok nothing) (node_seen n (read_answer cs n))
  seen cs (built s x l r) = Ok (fresh s x l r)

  abbrev pub both_seen : List (Cell K) → Grown K → Grown K → Result (Seen K × Seen K) StoreFault
  both_seen cs l r = bind (seen cs l) (λ a. bind (seen cs r) (λ b. Ok (a, b)))

  -- a new node over two sides
  unfoldable pub joined : Region K → Seen K → Seen K → Seen K
  joined x l r = fresh (size_over (weight l) (weight r)) x (tree l) (tree r)

  -- the near side of a heavy top is the one towards the light side
  unfoldable pub near : Lean → Parts K → Grown K
  near Right p = p.left
  near Left p = p.right

  unfoldable pub far : Lean → Parts K → Grown K
  far Right p = p.right
  far Left p = p.left

  -- a new node over a nearer and a farther side
  unfoldable pub joined_by : Lean → Region K → Seen K → Seen K → Seen K
  joined_by Right x a b = joined x a b
  joined_by Left x a b = joined x b a

  -- a single rotation: the heavy top rises, the near side changes over
  unfoldable pub single : Lean → Region K → Seen K → Region K → Seen K → Seen K → Seen K
  single s x light top inner outer = joined_by s top (joined_by s x light inner) outer

  -- a double rotation: the near side's own top rises, its sides are shared out
  unfoldable pub lifted : Lean → Region K → Seen K → Region K → Region K → Seen K → Seen K → Seen K → Seen K
  lifted s x light top mid inner other outer = joined_by s mid (joined_by s x light inner) (joined_by s top other outer)

  unfoldable pub raised : List (Cell K) → List (Numbered K) → Lean → Region K → Seen K → Region K → Parts K → Seen K → Result (Built K) StoreFault
  raised cs gone s x light top mid outer =
      bind (seen cs (near s mid)) (λ inner.
      bind (seen cs (far s mid)) (λ other.
      Ok (record { top = lifted s x light top mid.region inner other outer; gone = gone })))

  -- an empty near side is never heavy enough for a double rotation
  abbrev pub double_by : List (Cell K) → List (Numbered K) → Lean → Region K → Seen K → Region K → Seen K → Seen K → Option (Parts K) → Result (Built K) StoreFault
  double_by cs gone s x light top inner outer None = Ok (record { top = single s x light top inner outer; gone = gone })
  double_by cs gone s x light top inner outer (Some mid) = raised cs gone s x light top mid outer

  unfoldable pub double : List (Cell K) → List (Numbered K) → Lean → Region K → Seen K → Region K → Seen K → Seen K → Result (Built K) StoreFault
  double cs gone s x light top inner outer = double_by cs (without gone inner) s x light top inner outer (opened inner)

  -- single if the near side weighs less than twice the far one, else double
  unfoldable pub turned_by : Bool → List (Cell K) → List (Numbered K) → Lean → Region K → Seen K → Region K → Seen K → Seen K → Result (Built K) StoreFault
  turned_by true cs gone s x light top inner outer = Ok (record { top = single s x light top inner outer; gone = gone })
  turned_by false cs gone s x light top inner outer = double cs gone s x light top inner outer

  unfoldable pub turned_over : List (Cell K) → List (Numbered K) → Lean → Region K → Seen K → Parts K → Result (Built K) StoreFault
  turned_over cs gone s x light top =
      bind (seen cs (near s top)) (λ inner.
      bind (seen cs (far s top)) (λ outer.
      turned_by (nat_lt (weight inner) (2 * weight outer)) cs gone s x light top.region inner outer))

  -- an empty side is never too heavy
  abbrev pub turned_of : List (Cell K) → List (Numbered K) → Lean → Region K → Seen K → Seen K → Option (Parts K) → Result (Built K) StoreFault
  turned_of cs gone s x light heavy None = Ok (record { top = joined_by s x light heavy; gone = gone })
  turned_of cs gone s x light heavy (Some top) = turned_over cs gone s x light top

  -- the rotation where one side is too heavy: the heavy top is taken apart
  unfoldable pub turned : List (Cell K) → List (Numbered K) → Lean → Region K → Seen K → Seen K → Result (Built K) StoreFault
  turned cs gone s x light heavy = turned_of cs (without gone heavy) s x light heavy (opened heavy)

-- the balance rule: a side is too heavy if its weight is more than 3 times the other's
unfoldable pub heavy_side : ℕ → ℕ → Option Lean
heavy_side a b = cond (nat_lt (3 * a) b) (Some Right) (cond (nat_lt (3 * b) a) (Some Left) None)

module _ {K : Type 0} where
  -- the rotation over a left and a right side, of which the one named is too heavy
  unfoldable pub rotated : List (Cell K) → List (Numbered K) → Lean → Region K → Seen K → Seen K → Result (Built K) StoreFault
  rotated cs gone Right x l r = turned cs gone Right x l r
  rotated cs gone Left x l r = turned cs gone Left x r l

  abbrev pub balanced_by : Option Lean → List (Cell K) → List (Numbered K) → Region K → Seen K → Seen K → Result (Built K) StoreFault
  balanced_by None cs gone x l r = Ok (record { top = joined x l r; gone = gone })
  balanced_by (Some s) cs gone x l r = rotated cs gone s x l r

  -- a new node over two sides, rotated where one of them is too heavy
  unfoldable pub balanced : List (Cell K) → List (Numbered K) → Region K → Seen K → Seen K → Result (Built K) StoreFault
  balanced cs gone x l r = balanced_by (heavy_side (weight l) (weight r)) cs gone x l r
