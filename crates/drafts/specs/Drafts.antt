-- What a draft means: each link the tree that it leads to, and the nodes that leave.
use Rattle.std.specs.Prelude.{◌≡◌, ℕ, zero, suc, ◌+◌, ◌≤◌, Bool, true, false, List, length, Some, None, Ok, Err, Option, Result, ◌==◌}
use Rattle.std.specs.List.{slice_get}
use Rattle.store.specs.declared.fault.StoreFault.{StoreFault}
use Rattle.drafts.specs.declared.link.Link.{Link}
use Rattle.drafts.specs.declared.link.Link.TheVariants.{Old, New}
use Rattle.drafts.specs.declared.link.Lean.{Lean}
use Rattle.drafts.specs.declared.link.Lean.TheVariants.{Right, Left}
use Rattle.drafts.specs.declared.link.Branch.{Branch}
use Rattle.drafts.specs.declared.link.Numbered.{Numbered}
use Rattle.drafts.specs.declared.link.Side.{Side}
use Rattle.drafts.specs.declared.link.Side.TheVariants.{Empty, Stored, Drafted}
use Rattle.drafts.specs.declared.draft.Draft.{Draft}
use Rattle.drafts.specs.Grown.{Grown, kept, built, Seen, nothing, stored, fresh, Parts, Built, opened, without}

-- how deep a link can lead into the draft: a new node refers to earlier ones only
abbrev pub height : Link → ℕ
height (Old n) = 0
height (New i) = suc i

abbrev pub other_side : Lean → Lean
other_side Right = Left
other_side Left = Right

-- of two things, the one on a side
abbrev pub on_side : {A : Type 0} → Lean → A → A → A
on_side Right l r = r
on_side Left l r = l

abbrev pub by_fine : Bool → Type 0 → Type 0 → Type 0
by_fine true a b = a
by_fine false a b = b

module _ {K : Type 0} where
  abbrev pub at_entry : Option (Branch K) → (Link → Grown K) → Grown K
  at_entry None f = kept 0
  at_entry (Some b) f = built b.size b.region (f b.left) (f b.right)

  abbrev pub by_place : Bool → Grown K → Grown K → Grown K
  by_place true a b = a
  by_place false a b = b

  -- the tree at a link into the first k new nodes
  unfoldable pub grown : ℕ → List (Branch K) → Link → Grown K
  grown k es (Old n) = kept n
  grown zero es (New i) = kept 0
  grown (suc k) es (New i) = by_place (i == k) (at_entry (slice_get es k) (λ l. grown k es l)) (grown k es (New i))

  abbrev pub at_fine : Option (Branch K) → (Link → Type 0) → Type 0
  at_fine None f = ⊥
  at_fine (Some b) f = f b.left × f b.right

  -- a link that leads to new nodes before the k-th only, and those likewise
  unfoldable pub fine : ℕ → List (Branch K) → Link → Type 0
  fine k es (Old n) = Unit {0}
  fine zero es (New i) = ⊥
  fine (suc k) es (New i) = by_fine (i == k) (at_fine (slice_get es k) (λ l. fine k es l)) (fine k es (New i))

  abbrev pub tree_of : Draft K → Link → Grown K
  tree_of d l = grown (length d.made) d.made l

  abbrev pub Fine : Draft K → Link → Type 0
  Fine d l = fine (length d.made) d.made l

  abbrev pub gone_of : Draft K → List (Numbered K)
  gone_of d = d.gone

  -- a draft that has only got more: at most m new nodes, and j nodes that leave
  pub record Grew (m j : ℕ) (d d' : Draft K) : Type 0 where
    pub few : length d'.made ≤ length d.made + m
    pub few_out : length d'.gone ≤ length d.gone + j
    pub stays : (l : Link) → Fine d l → Fine d' l
    pub same : (l : Link) → Fine d l → tree_of d' l ≡ tree_of d l

  -- the new node b stands in the draft at place i
  pub record Stands (d : Draft K) (i : ℕ) (b : Branch K) : Type 0 where
    pub link : Fine d (New i)
    pub left : Fine d b.left
    pub right : Fine d b.right
    pub tree : tree_of d (New i) ≡ built b.size b.region (tree_of d b.left) (tree_of d b.right)

  -- a side that was seen rightly
  unfoldable pub Good : Draft K → Side K → Type 0
  Good d Empty = Unit {0}
  Good d (Stored p) = Unit {0}
  Good d (Drafted i b) = Stands d i b

  unfoldable pub seen_of : Draft K → Side K → Seen K
  seen_of d Empty = nothing
  seen_of d (Stored p) = stored p
  seen_of d (Drafted i b) = fresh b.size b.region (tree_of d b.left) (tree_of d b.right)

  abbrev pub link_of : Side K → Link
  link_of Empty = Old 0
  link_of (Stored p) = Old p.number
  link_of (Drafted i b) = New i

  abbrev pub side_weight : Side K → ℕ
  side_weight Empty = 1
  side_weight (Stored p) = p.node.size + 1
  side_weight (Drafted i b) = b.size + 1

  abbrev pub parts_of : Draft K → Branch K → Parts K
  parts_of d b = record { region = b.region; left = tree_of d b.left; right = tree_of d b.right }

  abbrev pub link_on : Lean → Branch K → Link
  link_on s b = on_side s b.left b.right

  abbrev pub good_told : Draft K → Result (Side K) StoreFault → Type 0
  good_told d (Ok s) = Good d s
  good_told d (Err e) = Unit {0}

  abbrev pub seen_told : Draft K → Result (Side K) StoreFault → Result (Seen K) StoreFault
  seen_told d (Ok s) = Ok (seen_of d s)
  seen_told d (Err e) = Err e

  -- the same of two sides
  abbrev pub both_good : Draft K → Result (Side K × Side K) StoreFault → Type 0
  both_good d (Ok p) = Good d p.0 × Good d p.1
  both_good d (Err e) = Unit {0}

  abbrev pub both_told : Draft K → Result (Side K × Side K) StoreFault → Result (Seen K × Seen K) StoreFault
  both_told d (Ok p) = Ok (seen_of d p.0, seen_of d p.1)
  both_told d (Err e) = Err e

  abbrev pub built_told : Draft K → Result (Side K) StoreFault → Result (Built K) StoreFault
  built_told d (Ok s) = Ok (record { top = seen_of d s; gone = gone_of d })
  built_told d (Err e) = Err e

  -- a side was made in the draft, and is what a definition gives; or both are refused alike
  pub record Makes (m j : ℕ) (d d' : Draft K) (r : Result (Side K) StoreFault) (told : Result (Built K) StoreFault) : Type 0 where
    pub grew : Grew m j d d'
    pub good : good_told d' r
    pub is : built_told d' r ≡ told

  -- the same of a new node whose making cannot be refused, and for which nothing leaves
  pub record Joins (m : ℕ) (d d' : Draft K) (s : Side K) (told : Seen K) : Type 0 where
    pub grew : Grew m 0 d d'
    pub good : Good d' s
    pub is : seen_of d' s ≡ told
    pub gone : gone_of d' ≡ gone_of d

  abbrev pub parts_told : Draft K → Option (Branch K) → Option (Parts K)
  parts_told d None = None
  parts_told d (Some b) = Some (parts_of d b)

  abbrev pub parts_fine : Draft K → Option (Branch K) → Type 0
  parts_fine d None = Unit {0}
  parts_fine d (Some b) = Fine d b.left × Fine d b.right

  -- the top of a side was taken apart; where it is a node of the store, it leaves
  pub record Takes (d d' : Draft K) (r : Option (Branch K)) (s : Seen K) : Type 0 where
    pub grew : Grew 0 1 d d'
    pub fine_parts : parts_fine d' r
    pub is : parts_told d' r ≡ opened s
    pub gone : gone_of d' ≡ without (gone_of d) s
