-- The copying walk down a left edge, and what drop and split build by it. It is one walk: drop cuts the lowest node of the edge off,
-- split gives it a new left side.
use Rattle.std.specs.Prelude.{ℕ, zero, suc, List, [], ◌∷◌, ◌++◌, Some, None, Ok, Option, Result}
use Rattle.store.specs.declared.node.Node.{Node}
use Rattle.store.specs.declared.node.Region.{Region}
use Rattle.store.specs.declared.fault.StoreFault.{StoreFault}
use Rattle.store.specs.Cells.{Cell, read_answer}
use Rattle.store.specs.Nodes.{region_of, link_number}
use Rattle.drafts.specs.declared.link.Numbered.{Numbered}
use Rattle.drafts.specs.Grown.{Grown, kept, Seen, nothing, Built, bind, tree, seen, joined, balanced}

-- a tree that was built, and the nodes of the memory that were taken apart for it
pub record Graft (K : Type 0) : Type 0 where
  pub side : Grown K
  pub gone : List (Numbered K)

-- the same of a left edge, with the number of its lowest node, which is the least of the side
pub record Walked (K : Type 0) : Type 0 where
  pub least : ℕ
  pub side : Grown K
  pub gone : List (Numbered K)

module _ {K : Type 0} where
  abbrev pub numbered : ℕ → Node K → Numbered K
  numbered n v = record { number = n; node = v }

  -- a new node with no sides
  abbrev pub sprout : Region K → Seen K
  sprout z = joined z nothing nothing

  abbrev pub graft_of : Built K → Graft K
  graft_of b = record { side = tree b.top; gone = b.gone }

  abbrev pub walked_as : ℕ → Graft K → Walked K
  walked_as n g = record { least = n; side = g.side; gone = g.gone }

  -- what stands in place of the lowest node v of the edge: its right side, or a copy of it over a new left side
  unfoldable pub edge_end : List (Cell K) → List (Numbered K) → Option (Region K) → Node K → Result (Graft K) StoreFault
  edge_end cs gone None v = Ok (record { side = kept v.right; gone = gone })
  edge_end cs gone (Some z) v =
      bind (seen cs (kept v.right)) (λ r. bind (balanced cs gone (region_of v) (sprout z) r) (λ b. Ok (graft_of b)))

  -- a copy of the node v over what was made of its left side, balanced
  unfoldable pub edge_over : List (Cell K) → Node K → Walked K → Result (Walked K) StoreFault
  edge_over cs v w =
      bind (seen cs w.side) (λ l.
      bind (seen cs (kept v.right)) (λ r.
      bind (balanced cs w.gone (region_of v) l r) (λ b. Ok (walked_as w.least (graft_of b)))))

  abbrev pub edge_at : (List (Numbered K) → ℕ → Result (Walked K) StoreFault) → List (Cell K) → List (Numbered K) → Option (Region K) → ℕ → Node K → Option ℕ → Result (Walked K) StoreFault
  edge_at on cs gone e n v None = bind (edge_end cs gone e v) (λ g. Ok (walked_as n g))
  edge_at on cs gone e n v (Some m) = bind (on gone m) (edge_over cs v)

  -- the walk from node n down its left edge, through at most k more nodes; past these a left link counts as empty.
  -- Each node of the edge leaves, the highest first.
  unfoldable pub walked : ℕ → List (Cell K) → Option (Region K) → List (Numbered K) → ℕ → Result (Walked K) StoreFault
  walked zero cs e gone n =
      bind (read_answer cs n) (λ v. bind (edge_end cs (gone ++ (numbered n v ∷ [])) e v) (λ g. Ok (walked_as n g)))
  walked (suc k) cs e gone n =
      bind (read_answer cs n) (λ v. edge_at (walked k cs e) cs (gone ++ (numbered n v ∷ [])) e n v (link_number v.left))

  -- drop with both sides: the region of the least node of the right side rises, over the left side and the right side without it
  unfoldable pub merged : List (Cell K) → Numbered K → Result (Built K) StoreFault
  merged cs p =
      bind (walked 26 cs None (p ∷ []) p.node.right) (λ w.
      bind (read_answer cs w.least) (λ v.
      bind (seen cs (kept p.node.left)) (λ l.
      bind (seen cs w.side) (λ r.
      balanced cs w.gone (region_of v) l r))))

  -- a side with a region added as its least
  abbrev pub grown_by : List (Cell K) → List (Numbered K) → Region K → Option ℕ → Result (Graft K) StoreFault
  grown_by cs gone z None = Ok (record { side = tree (sprout z); gone = gone })
  grown_by cs gone z (Some n) = bind (walked 26 cs (Some z) gone n) (λ w. Ok (record { side = w.side; gone = w.gone }))

  -- split: the lower part over the left side and the right side with the upper part as its least
  unfoldable pub parted : List (Cell K) → Numbered K → Region K → Region K → Result (Built K) StoreFault
  parted cs p lower upper =
      bind (grown_by cs (p ∷ []) upper (link_number p.node.right)) (λ g.
      bind (seen cs (kept p.node.left)) (λ l.
      bind (seen cs g.side) (λ r.
      balanced cs g.gone lower l r)))
