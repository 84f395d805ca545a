-- What the edits answer and leave, as functions of the memory, the root link and the pending path.
use Rattle.std.specs.Prelude.{◌≡◌, ℕ, cond, List, [], ◌∷◌, length, Some, None, Ok, Err, Option, Result, ◌==◌, nat_lt}
use Rattle.store.specs.Nodes.{region_of}
use Rattle.store.specs.declared.node.Node.{Node}
use Rattle.store.specs.declared.fault.StoreFault.{StoreFault}
use Rattle.store.specs.Cells.{Cell, read_answer}
use Rattle.drafts.specs.declared.link.Numbered.{Numbered}
use Rattle.drafts.specs.declared.link.Lean.{Lean}
use Rattle.drafts.specs.declared.link.Lean.TheVariants.{Right, Left}
use Rattle.drafts.specs.declared.draft.Draft.{Draft}
use Rattle.drafts.specs.Grown.{kept, Seen, Built, bind, seen, tree, weight, size_over, heavy_side, rotated}
use Rattle.drafts.specs.Drafts.{seen_of, Good, gone_of}
use Rattle.edits.specs.declared.fault.Refusal.{Refusal}
use Rattle.edits.specs.declared.fault.Refusal.TheVariants.{Resting, Crowded}
use Rattle.edits.specs.declared.fault.Doing.TheVariants.{Rotation}
use Rattle.commits.specs.declared.writes.Joint.{Joint}
use Rattle.edits.specs.declared.pending.Weighed.{Weighed}
use Rattle.edits.specs.declared.pending.Plan.{Plan}
use Rattle.search.specs.Paths.{lowest, above}
use Rattle.edits.specs.Refusals.{refused_in}
use Rattle.search.specs.Frees.{Chosen, free_count}
use Rattle.commits.specs.Commits.{Writes, placed, root_after, committed, GoneInside}

-- a node with its sides, and its size set from them
pub record Sized (K : Type 0) : Type 0 where
  pub node : Numbered K
  pub left : Seen K
  pub right : Seen K

-- a rotation, and where it is linked
pub record Turned (K : Type 0) : Type 0 where
  pub built : Built K
  pub joint : Option (Joint K)

-- what an accepted edit makes: the pending path, the root link, and the writes in their order
pub record Change (K : Type 0) : Type 0 where
  pub path : List ℕ
  pub root : ℕ
  pub writes : List (Numbered K)

module _ {K : Type 0} where
  abbrev pub resized : ℕ → Node K → Node K
  resized s v = record { mark = v.mark; left = v.left; right = v.right; size = s; rows = v.rows; waits = v.waits; low = v.low; high = v.high }

  abbrev pub sized_of : ℕ → Node K → Seen K → Seen K → Sized K
  sized_of n v l r = record { node = record { number = n; node = resized (size_over (weight l) (weight r)) v }; left = l; right = r }

  unfoldable pub sized : List (Cell K) → ℕ → Result (Sized K) StoreFault
  sized cs n =
      bind (read_answer cs n) (λ v.
      bind (seen cs (kept v.left)) (λ l.
      bind (seen cs (kept v.right)) (λ r.
      Ok (sized_of n v l r))))

  abbrev pub side_of : ℕ → Node K → Lean
  side_of n v = cond (v.left == n) Left Right

  -- which link leads to node n: the root link, or one of the node above it
  abbrev pub joint_by : List (Cell K) → ℕ → Option ℕ → Result (Option (Joint K)) StoreFault
  joint_by cs n None = Ok None
  joint_by cs n (Some p) = bind (read_answer cs p) (λ v. Ok (Some (record { above = record { number = p; node = v }; side = side_of n v })))

  unfoldable pub joint_at : List (Cell K) → List ℕ → ℕ → Result (Option (Joint K)) StoreFault
  joint_at cs path n = joint_by cs n (lowest path)

  -- the rotation of a node that was sized, and the link to it
  unfoldable pub turned_at : List (Cell K) → List ℕ → Sized K → Lean → Result (Turned K) StoreFault
  turned_at cs path w s =
      bind (rotated cs (w.node ∷ []) s (region_of w.node.node) w.left w.right) (λ b.
      bind (joint_at cs path w.node.number) (λ j.
      Ok (record { built = b; joint = j })))

  abbrev pub turned_change : List ℕ → ℕ → ℕ → List ℕ → Turned K → Change K
  turned_change path root sessions ns t =
      let p = placed (tree t.built.top) ns in
      record { path = path; root = root_after t.joint p.top root; writes = committed t.joint p sessions t.built.gone }

  -- fewer than three free nodes are too few for a rotation
  unfoldable pub rotation : List (Cell K) → List ℕ → ℕ → ℕ → List ℕ → Sized K → Lean → Result (Change K) Refusal
  rotation cs path root sessions ns w s =
      cond (nat_lt (free_count cs) 3) (Err Crowded)
      (bind (refused_in Rotation (turned_at cs path w s)) (λ t. Ok (turned_change path root sessions ns t)))

  abbrev pub treated : List (Cell K) → List ℕ → ℕ → ℕ → List ℕ → Sized K → Option Lean → Result (Change K) Refusal
  treated cs path root sessions ns w None = Ok (record { path = path; root = root; writes = w.node ∷ [] })
  treated cs path root sessions ns w (Some s) = rotation cs path root sessions ns w s

  abbrev pub lowest_treated : List (Cell K) → List ℕ → ℕ → ℕ → List ℕ → Option ℕ → Result (Change K) Refusal
  lowest_treated cs path root sessions ns None = Err Resting
  lowest_treated cs path root sessions ns (Some n) =
      bind (refused_in Rotation (sized cs n)) (λ w. treated cs path root sessions ns w (heavy_side (weight w.left) (weight w.right)))

  -- advance: the lowest pending node gets its size and, if a side is too heavy, is rotated; the others stay pending
  unfoldable pub advanced : List (Cell K) → List ℕ → ℕ → ℕ → List ℕ → Result (Change K) Refusal
  advanced cs path root sessions ns = lowest_treated cs (above path) root sessions ns (lowest path)

  -- an edit that was called: what it answers, and the path, the root link and the cells after it
  abbrev pub Ends : (cs ds : List (Cell K)) (path path' : List ℕ) (root root' : ℕ) → Result ℕ Refusal → Result (Change K) Refusal → Type 0
  Ends cs ds path path' root root' r (Ok c) = (r ≡ Ok (length c.path)) × (path' ≡ c.path) × (root' ≡ c.root) × Writes cs c.writes ds
  Ends cs ds path path' root root' r (Err e) = (r ≡ Err e) × (path' ≡ path) × (root' ≡ root) × (ds ≡ cs)

  -- the numbers for new nodes are free nodes of the pool, none twice; which ones, is open
  pub record Edits (cs ds : List (Cell K)) (path path' : List ℕ) (root root' : ℕ) (r : Result ℕ Refusal) (told : List ℕ → Result (Change K) Refusal) : Type 0 where
    pub numbers : List ℕ
    pub chosen : Chosen cs numbers
    pub ends : Ends cs ds path path' root root' r (told numbers)

  -- the same of a rotation alone
  abbrev pub TurnEnds : (cs ds : List (Cell K)) (root root' : ℕ) → Result (Unit {0}) Refusal → Result (Change K) Refusal → Type 0
  TurnEnds cs ds root root' r (Ok c) = (r ≡ Ok tt) × (root' ≡ c.root) × Writes cs c.writes ds
  TurnEnds cs ds root root' r (Err e) = (r ≡ Err e) × (root' ≡ root) × (ds ≡ cs)

  pub record Turns (cs ds : List (Cell K)) (root root' : ℕ) (r : Result (Unit {0}) Refusal) (told : List ℕ → Result (Change K) Refusal) : Type 0 where
    pub numbers : List ℕ
    pub chosen : Chosen cs numbers
    pub ends : TurnEnds cs ds root root' r (told numbers)

  -- every write falls on one of N nodes, so there was a number for each new node
  abbrev pub Within : ℕ → Result (Change K) Refusal → Type 0
  Within N (Ok c) = GoneInside N c.writes
  Within N (Err e) = Unit {0}

  -- an edit, and a rotation, whose every write falls on a node of the store
  pub record EditsInside (cs ds : List (Cell K)) (path path' : List ℕ) (root root' : ℕ) (r : Result ℕ Refusal) (told : List ℕ → Result (Change K) Refusal) : Type 0 where
    pub edits : Edits cs ds path path' root root' r told
    pub inside : Within (length cs) (told edits.numbers)

  pub record TurnsInside (cs ds : List (Cell K)) (root root' : ℕ) (r : Result (Unit {0}) Refusal) (told : List ℕ → Result (Change K) Refusal) : Type 0 where
    pub turns : Turns cs ds root root' r told
    pub inside : Within (length cs) (told turns.numbers)

  -- inner steps in a draft
  abbrev pub sized_by : Draft K → Weighed K → Sized K
  sized_by d w = record { node = w.node; left = seen_of d w.left; right = seen_of d w.right }

  -- a node that was weighed over an empty draft
  pub record Fresh (d : Draft K) (w : Weighed K) : Type 0 where
    pub made : d.made ≡ []
    pub gone : d.gone ≡ []
    pub left : Good d w.left
    pub right : Good d w.right

  abbrev pub sized_in : Draft K → Result (Weighed K) StoreFault → Result (Sized K) StoreFault
  sized_in d (Ok w) = Ok (sized_by d w)
  sized_in d (Err e) = Err e

  abbrev pub good_in : Draft K → Result (Weighed K) StoreFault → Type 0
  good_in d (Ok w) = Good d w.left × Good d w.right
  good_in d (Err e) = Unit {0}

  abbrev pub turned_in : Draft K → Result (Plan K) StoreFault → Result (Turned K) StoreFault
  turned_in d (Ok p) = Ok (record { built = record { top = seen_of d p.top; gone = gone_of d }; joint = p.joint })
  turned_in d (Err e) = Err e

  abbrev pub plan_good : Draft K → Result (Plan K) StoreFault → Type 0
  plan_good d (Ok p) = Good d p.top
  plan_good d (Err e) = Unit {0}
