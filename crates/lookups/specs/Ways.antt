-- Lookups that go through memory while edits go on: the walk that lies ahead of one, and what holds of one that is going.
use Rattle.std.specs.Prelude.{◌≡◌, ℕ, ◌≤◌, ◌⊎◌, List, [], ◌∷◌, ◌++◌, Some, None, Option, nat_eq, Ok, Err}
use Rattle.store.specs.declared.node.Node.{Node}
use Rattle.store.specs.declared.node.Region.{Region}
use Rattle.store.specs.Cells.{readable, cell_at}
use Rattle.store.specs.Nodes.{region_of}
use Rattle.trees.specs.Trees.{Turn, here, Tree, path, found}
use Rattle.trees.specs.Paths.{times, On, In}
use Rattle.runs.specs.declared.call.Answer.TheVariants.{Pending, Opened, Closed, On as MovedOn, Nothing, Found, Nodes}
use Rattle.runs.specs.States.{Cells, Row}
use Rattle.runs.specs.Effects.{Onward}
use Rattle.runs.specs.Calls.{Outcome}

-- THE WALK AHEAD: from the link p on, by the turn that is taken at each node, the nodes ns are visited, and out is what is told
-- in the end: the region of the node where the walk ends, or none where it comes to no node.
pub data Walk {K : Type 0} (cs : Cells K) (turn : Region K → Turn) (out : Option (Region K)) : ℕ → List ℕ → Type 0 where
  no_node : out ≡ None → Walk cs turn out 0 []
  finds :
      (p : ℕ) (v : Node K) → 1 ≤ p → cell_at cs p ≡ readable v → turn (region_of v) ≡ here → out ≡ Some (region_of v) →
      Walk cs turn out p (p ∷ [])
  onward :
      (p q : ℕ) (v : Node K) (ns : List ℕ) → 1 ≤ p → cell_at cs p ≡ readable v → Onward (turn (region_of v)) v q → Walk cs turn out q ns →
      Walk cs turn out p (p ∷ ns)

-- A CHANGE OF MEMORY, from the cells cs to the cells ds

-- w leads on as v does, and has its region
pub record LeadsAlike {K : Type 0} (v w : Node K) : Type 0 where
  pub same_left : w.left ≡ v.left
  pub same_right : w.right ≡ v.right
  pub same_region : region_of w ≡ region_of v

-- the node n can be read after as before, with the same links and the same region
abbrev pub KeptNode : {K : Type 0} → Cells K → Cells K → ℕ → Type 0
KeptNode {K} cs ds n = (v : Node K) → cell_at cs n ≡ readable v → (w : Node K) × (cell_at ds n ≡ readable w) × LeadsAlike v w

-- Of the nodes out of the tree, those that are held for a session: what these are is left open, before and after a change.

-- the node q is out of the tree t and held
pub record Waits {R : Type 0} (Held : ℕ → Type 0) (t : Tree ℕ R) (q : ℕ) : Type 0 where
  pub held : Held q
  pub out_of_tree : In q t → ⊥

-- From a tree t to a tree u: a node of the tree that leaves it is held from then on; one that was held out of the tree stays so, as
-- none of them is taken for the tree. Both lead on as they did.
pub record HoldsOn {K : Type 0} (Held Held' : ℕ → Type 0) (cs ds : Cells K) (t u : Tree ℕ (Region K)) : Type 0 where
  pub leaving : (q : ℕ) → In q t → (In q u → ⊥) → Held' q × KeptNode cs ds q
  pub waiting : (q : ℕ) → Waits Held t q → Held' q × KeptNode cs ds q
  pub not_taken : (q : ℕ) → Waits Held t q → In q u → ⊥

-- A LOOKUP THAT IS GOING

module _ {K : Type 0} (Held : ℕ → Type 0) (Gave : Option (Region K) → Type 0) (turn : Region K → Turn) where
  -- While nodes of the tree lie ahead, what will be told is what the search finds in the tree now; after that, it is what was given
  -- at some moment.
  abbrev pub WillTell : Tree ℕ (Region K) → Option (Region K) → List ℕ → Type 0
  WillTell t out [] = Gave out
  WillTell t out (n ∷ ns) = out ≡ found turn t

  -- At the link p, in a memory whose tree is t, with the nodes `seen` behind it: ahead lie first nodes that have left the tree, then
  -- what is left of the search's path in it. No node is met twice. What was seen is held, or on the path above what lies ahead.
  pub record GoingAt (cs : Cells K) (t : Tree ℕ (Region K)) (p : ℕ) (seen : List ℕ) : Type 0 where
    pub out : Option (Region K)
    pub gone : List ℕ
    pub above : List ℕ
    pub ahead : List ℕ
    pub walks : Walk cs turn out p (gone ++ ahead)
    pub on_path : path turn t ≡ above ++ ahead
    pub gone_wait : (q : ℕ) → On q gone → Waits Held t q
    pub seen_stand : (q : ℕ) → On q seen → On q above ⊎ Waits Held t q
    pub once : (q : ℕ) → times (nat_eq q) (seen ++ (gone ++ ahead)) ≤ 1
    pub will_tell : WillTell t out ahead
    -- only a lookup that has not begun to step stands at no node
    pub at_node : (1 ≤ p) ⊎ (seen ≡ [])

-- A LOOKUP THAT HAS FOUND x at the node p
pub record FoundAt {K : Type 0} (Held : ℕ → Type 0) (cs : Cells K) (t : Tree ℕ (Region K)) (p : ℕ) (x : Region K) : Type 0 where
  pub there : Node K
  pub can_be_read : cell_at cs p ≡ readable there
  pub told : region_of there ≡ x
  pub stands : In p t ⊎ Waits Held t p

-- A GOING STEP at the link p: it finds a region, or ends with none, and what it tells was given at some moment; or it moves on, and the
-- node at p is behind it. No other answer comes.
abbrev pub AfterStep :
    {K F : Type 0} → (ℕ → Type 0) → (Option (Region K) → Type 0) → (Region K → Turn) → Cells K → Tree ℕ (Region K) → ℕ → List ℕ → Outcome K F → Row → Type 0
AfterStep Held Gave turn cs t p seen (Ok (Found x n)) w = Gave (Some x) × FoundAt Held cs t w.place x
AfterStep Held Gave turn cs t p seen (Ok (Nothing n)) w = Gave None × (w.place ≡ 0)
AfterStep Held Gave turn cs t p seen (Ok (MovedOn n)) w = GoingAt Held Gave turn cs t w.place (p ∷ seen)
AfterStep Held Gave turn cs t p seen (Ok (Pending n)) w = ⊥
AfterStep Held Gave turn cs t p seen (Ok Opened) w = ⊥
AfterStep Held Gave turn cs t p seen (Ok Closed) w = ⊥
AfterStep Held Gave turn cs t p seen (Ok (Nodes a b c)) w = ⊥
AfterStep Held Gave turn cs t p seen (Err r) w = ⊥
