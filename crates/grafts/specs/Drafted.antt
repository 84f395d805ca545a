-- What the steps of put, drop and split deliver, said of the code's own values.
use Rattle.std.specs.Prelude.{◌≡◌, ℕ, List, length, Ok, Err, Option, Result, IsOkAnd}
use Rattle.store.specs.Cells.{Cell}
use Rattle.store.specs.declared.fault.StoreFault.{StoreFault}
use Rattle.stacks.specs.declared.numbers.Numbers.{Numbers}
use Rattle.stacks.specs.Held.{held}
use Rattle.drafts.specs.declared.link.Link.{Link}
use Rattle.drafts.specs.declared.link.Numbered.{Numbered}
use Rattle.drafts.specs.declared.draft.Draft.{Draft}
use Rattle.drafts.specs.Drafts.{tree_of, Fine, gone_of}
use Rattle.search.specs.declared.free.Found.{Found}
use Rattle.search.specs.Frees.{left_of, Chosen}
use Rattle.search.specs.Searches.{Way}
use Rattle.walks.specs.Walks.{Graft}
use Rattle.edits.specs.declared.fault.Refusal.{Refusal}
use Rattle.grafts.specs.Grafts.{free_for, Held}

module _ {K : Type 0} where
  -- numbers for new nodes were found: just as many as wanted, none used yet
  pub record Ready (cs : List (Cell K)) (want : ℕ) (f : Found) : Type 0 where
    pub asked : Ok tt ≡ free_for cs want
    pub chosen : Chosen cs (left_of f)
    pub many : length (left_of f) ≡ want

  abbrev pub FindsFree : List (Cell K) → ℕ → Result Found Refusal → Type 0
  FindsFree cs want (Ok f) = Ready cs want f
  FindsFree cs want (Err e) = Err e ≡ free_for cs want

-- the way down was taken: the path, and the answer
abbrev pub Begins : Result (Numbers 27 × Option ℕ) Refusal → Result Way Refusal → Type 0
Begins r (Ok w) = IsOkAnd r (λ a. (held a.0 ≡ w.passed) × (a.1 ≡ w.end))
Begins r (Err e) = r ≡ Err e

module _ {K : Type 0} where
  -- the node that holds a key was found: the path, and it
  abbrev pub Holds : Result (Numbers 27 × Numbered K) Refusal → Result (Held K) Refusal → Type 0
  Holds r (Ok h) = IsOkAnd r (λ a. (held a.0 ≡ h.way) × (a.1 ≡ h.node))
  Holds r (Err e) = r ≡ Err e

  -- what takes a link's place was drafted
  abbrev pub graft_in : Draft K → Result Link StoreFault → Result (Graft K) StoreFault
  graft_in d (Ok l) = Ok (record { side = tree_of d l; gone = gone_of d })
  graft_in d (Err e) = Err e

  abbrev pub fine_in : Draft K → Result Link StoreFault → Type 0
  fine_in d (Ok l) = Fine d l
  fine_in d (Err e) = Unit {0}
