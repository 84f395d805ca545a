-- What a function of the walk makes in the draft, against what a definition says.
use Rattle.std.specs.Prelude.{◌≡◌, ℕ, zero, suc, List, None, Ok, Err, Option, Result}
use Rattle.store.specs.declared.node.Node.{Node}
use Rattle.store.specs.declared.node.Region.{Region}
use Rattle.store.specs.declared.fault.StoreFault.{StoreFault}
use Rattle.store.specs.Cells.{Cell}
use Rattle.store.specs.Nodes.{region_of, link_number}
use Rattle.drafts.specs.declared.link.Link.{Link}
use Rattle.drafts.specs.declared.link.Numbered.{Numbered}
use Rattle.drafts.specs.declared.draft.Draft.{Draft}
use Rattle.drafts.specs.Grown.{Grown, kept, Built, bind, seen, balanced}
use Rattle.drafts.specs.Drafts.{tree_of, Fine, gone_of, Grew}
use Rattle.walks.specs.Walks.{Graft, Walked, graft_of, walked_as}

-- the next node down a left edge, of which at most k more count
abbrev pub next_down : ℕ → ℕ → Option ℕ
next_down zero l = None
next_down (suc k) l = link_number l

abbrev pub fair_told : {A : Type 0} → (A → Type 0) → Result A StoreFault → Type 0
fair_told f (Ok a) = f a
fair_told f (Err e) = Unit {0}

abbrev pub meant : {A B : Type 0} → (A → B) → Result A StoreFault → Result B StoreFault
meant f (Ok a) = Ok (f a)
meant f (Err e) = Err e

module _ {K : Type 0} where
  -- a new node over two trees, balanced
  abbrev pub topped : List (Cell K) → List (Numbered K) → Region K → Grown K → Grown K → Result (Built K) StoreFault
  topped cs gone x l r = bind (seen cs l) (λ a. bind (seen cs r) (λ b. balanced cs gone x a b))

  -- a copy of the node v over a new left side, balanced
  abbrev pub copied : List (Cell K) → List (Numbered K) → Node K → Grown K → Result (Graft K) StoreFault
  copied cs gone v l = bind (topped cs gone (region_of v) l (kept v.right)) (λ b. Ok (graft_of b))

  -- what a link, and a link with the least node's number, mean in a draft
  abbrev pub graft_in : Draft K → Link → Graft K
  graft_in d l = record { side = tree_of d l; gone = gone_of d }

  abbrev pub walked_in : Draft K → ℕ × Link → Walked K
  walked_in d p = walked_as p.0 (graft_in d p.1)

  abbrev pub FineEnd : Draft K → ℕ × Link → Type 0
  FineEnd d p = Fine d p.1

  -- the draft grew from d to d', and the answer means there what a definition gives; or both are refused alike
  pub record Comes {A B : Type 0} (fair : Draft K → A → Type 0) (means : Draft K → A → B) (m j : ℕ) (d d' : Draft K) (r : Result A StoreFault) (told : Result B StoreFault) : Type 0 where
    pub grew : Grew m j d d'
    pub good : fair_told (fair d') r
    pub is : meant (means d') r ≡ told

  -- a side was made
  abbrev pub Grafts : ℕ → ℕ → Draft K → Draft K → Result Link StoreFault → Result (Graft K) StoreFault → Type 0
  Grafts m j d d' r told = Comes Fine graft_in m j d d' r told

  -- a left edge was walked
  abbrev pub Walks : ℕ → ℕ → Draft K → Draft K → Result (ℕ × Link) StoreFault → Result (Walked K) StoreFault → Type 0
  Walks m j d d' r told = Comes FineEnd walked_in m j d d' r told
