-- What each call of a catalogue answers and leaves, told by the definitions that the contracts of the edits and the sessions cite.
use Rattle.std.specs.Prelude.{◌≡◌, ℕ, Bool, true, false, cond, List, [], map, reverse, length, replicate, Some, None, Ok, Err, Option, Result, nat_lt, slice_index_or}
use Rattle.store.specs.Nodes.{region}
use Rattle.store.specs.declared.node.Region.{Region}
use Rattle.search.specs.Searches.{less_by}
use Rattle.edits.specs.declared.fault.Doing.{Doing as EditDoing}
use Rattle.edits.specs.declared.fault.Doing.TheVariants.{Search as InSearch, Copy as InCopy, Rotation as InRotation}
use Rattle.edits.specs.declared.fault.Refusal.{Refusal as EditRefusal}
use Rattle.edits.specs.declared.fault.Refusal.TheVariants.{Busy, Resting, Overlaps as Overlapping, Missing, SameAsLow as LowAgain, Full as Brimful, Crowded, Refused as ByStore}
use Rattle.edits.specs.Calls.{Change, EditsInside, advanced}
use Rattle.grafts.specs.Grafts.{same_by, put_told, drop_told, split_told}
use Rattle.sessions.specs.declared.lookup.Row.{Row as SessionRow}
use Rattle.sessions.specs.declared.lookup.State.{State as SessionState}
use Rattle.sessions.specs.declared.lookup.State.TheVariants.{Closed as IsClosed, Going as IsGoing, Answered as IsAnswered}
use Rattle.sessions.specs.declared.lookup.Call.{Call as SessionCall}
use Rattle.sessions.specs.declared.lookup.Call.TheVariants.{Open as ToOpen, Step as ToStep, Close as ToClose}
use Rattle.sessions.specs.declared.lookup.Told.{Told}
use Rattle.sessions.specs.declared.lookup.Told.TheVariants.{Opened as HasOpened, On as GoesOn, Nothing as FoundNone, Found as FoundOne, Ended}
use Rattle.sessions.specs.declared.fault.SessionFault.{SessionFault}
use Rattle.sessions.specs.declared.fault.SessionFault.TheVariants.{NoSession as NotASession, HasLookup as HasOne, NoLookup as HasNone, Lookup as InLookup}
use Rattle.sessions.specs.Ways.{way_of}
use Rattle.sessions.specs.Lookups.{session_done, Does as SessionDoes}
use Rattle.sessions.specs.Making.{can_make, making, pool_counts}
use Rattle.sessions.specs.Writings.{Rewritten}
use Rattle.requests.specs.declared.call.Call.{Call}
use Rattle.requests.specs.declared.call.Call.TheVariants.{Put, Drop, Split, Advance, Open, Step, Close, Counts}
use Rattle.runs.specs.declared.call.Argument.{Argument}
use Rattle.runs.specs.declared.call.Doing.{Doing}
use Rattle.runs.specs.declared.call.Doing.TheVariants.{Search, Copy, Rotation, Lookup}
use Rattle.runs.specs.declared.call.Refusal.{Refusal}
use Rattle.runs.specs.declared.call.Refusal.TheVariants.{BadSize, NoSession, HasLookup, NoLookup, IllFormed, NotBelow, UnderWay, AtRest, Overlaps, NoRegion, SameAsLow, Full, FewFree, StoreRefused}
use Rattle.runs.specs.declared.call.Answer.TheVariants.{Pending, Opened, Closed, On, Nothing, Found, Nodes}
use Rattle.runs.specs.Calls.{Kind, Outcome}
use Rattle.runs.specs.Histories.{bits}
use Rattle.runs.specs.Table.{keys_of, first_ill}
use Rattle.runs.specs.States.{State, Cells, meant, Stage, closed, going, answered, Row, row, row_of}

-- ROWS as the sessions keep them

abbrev pub stage_of : SessionState → Stage
stage_of IsClosed = closed
stage_of IsGoing = going
stage_of IsAnswered = answered

abbrev pub row_as : SessionRow → Row
row_as w = row (stage_of w.state) w.place w.steps

abbrev pub is_open : Stage → Bool
is_open closed = false
is_open going = true
is_open answered = true

-- the sessions with an open lookup: bit s for session s
abbrev pub open_bits : List Row → ℕ
open_bits rows = bits (λ s. is_open (slice_index_or rows s (row closed 0 0)).stage) 32

-- REFUSALS AND ANSWERS of the layers below, as calls tell them

abbrev pub doing_of : EditDoing → Doing
doing_of InSearch = Search
doing_of InCopy = Copy
doing_of InRotation = Rotation

module _ {F : Type 0} where
  abbrev pub edit_refusal : EditRefusal → Refusal F
  edit_refusal Busy = UnderWay
  edit_refusal Resting = AtRest
  edit_refusal Overlapping = Overlaps
  edit_refusal Missing = NoRegion
  edit_refusal LowAgain = SameAsLow
  edit_refusal Brimful = Full
  edit_refusal Crowded = FewFree
  edit_refusal (ByStore e) = StoreRefused (doing_of e.doing) e.fault

  abbrev pub session_refusal : SessionFault → Refusal F
  session_refusal NotASession = NoSession
  session_refusal HasOne = HasLookup
  session_refusal HasNone = NoLookup
  session_refusal (InLookup e) = StoreRefused Lookup e

module _ {K F : Type 0} where
  abbrev pub edit_answer : Result ℕ EditRefusal → Outcome K F
  edit_answer (Ok n) = Ok (Pending n)
  edit_answer (Err e) = Err (edit_refusal e)

  abbrev pub told_answer : Told K → Outcome K F
  told_answer HasOpened = Ok Opened
  told_answer (GoesOn n) = Ok (On n)
  told_answer (FoundNone n) = Ok (Nothing n)
  told_answer (FoundOne x n) = Ok (Found x n)
  told_answer Ended = Ok Closed

  abbrev pub session_answer : Result (Told K) SessionFault → Outcome K F
  session_answer (Ok t) = told_answer t
  session_answer (Err e) = Err (session_refusal e)

-- WHAT A CALL ASKS before it looks at the tree: the size of the store, its session, its keys

abbrev pub ill_or : {F : Type 0} → Option (Argument × F) → Option (Refusal F) → Option (Refusal F)
ill_or None rest = rest
ill_or (Some x) rest = Some (IllFormed x.0 x.1)

module _ {K F : Type 0} (kd : Kind K F) where
  abbrev pub less : K → K → Bool
  less = less_by kd.fault kd.order

  abbrev pub same : K → K → Bool
  same = same_by kd.fault kd.order

  -- the first of its keys that is ill formed, else `rest`
  abbrev pub keys_or : Call K → Option (Refusal F) → Option (Refusal F)
  keys_or c rest = ill_or (first_ill kd.fault (keys_of c)) rest

  abbrev pub asked_of : State (Cells K) → Call K → Option (Refusal F)
  asked_of x (Put low high rows) = keys_or (Put low high rows) (cond (less low high) None (Some NotBelow))
  asked_of x (Drop k) = keys_or (Drop k) None
  asked_of x (Split k m n) = keys_or (Split k m n) None
  asked_of x Advance = None
  asked_of x (Open s k) = cond (nat_lt 31 s) (Some NoSession) (cond (is_open (row_of x s).stage) (Some HasLookup) (keys_or (Open s k) None))
  asked_of x (Step s) = None
  asked_of x (Close s) = None
  asked_of x Counts = None

  unfoldable pub asked : State (Cells K) → Call K → Option (Refusal F)
  asked x c = cond (can_make (length x.memory)) (asked_of x c) (Some BadSize)

  -- WHAT IT DOES, if it asks for nothing that is not there

  -- an edit: what was told of it is so for some free nodes, and every write falls on a node
  pub record EditDoes (told : List ℕ → Result (Change K) EditRefusal) (x : State (Cells K)) (a : Outcome K F) (y : State (Cells K)) : Type 0 where
    pub result : Result ℕ EditRefusal
    pub edits : EditsInside x.memory y.memory (reverse x.pending) (reverse y.pending) x.root y.root result told
    pub answers : a ≡ edit_answer result
    pub rows : y.rows ≡ x.rows

  -- a call of a session
  pub record ActDoes (s : ℕ) (c : SessionCall K) (x : State (Cells K)) (a : Outcome K F) (y : State (Cells K)) : Type 0 where
    pub before : List SessionRow
    pub after : List SessionRow
    pub rows_before : x.rows ≡ map row_as before
    pub rows_after : y.rows ≡ map row_as after
    pub result : Result (Told K) SessionFault
    pub does : SessionDoes (session_done (way_of kd.fault kd.order) kd.filler x.memory before s c) result after x.memory y.memory
    pub answers : a ≡ session_answer result
    pub root : y.root ≡ x.root
    pub pending : y.pending ≡ x.pending

  abbrev pub put_of : State (Cells K) → Region K → List ℕ → Result (Change K) EditRefusal
  put_of x r ns = put_told less x.memory (reverse x.pending) x.root (open_bits x.rows) r ns

  abbrev pub drop_of : State (Cells K) → K → List ℕ → Result (Change K) EditRefusal
  drop_of x k ns = drop_told less x.memory (reverse x.pending) x.root (open_bits x.rows) k ns

  abbrev pub split_of : State (Cells K) → K → ℕ → ℕ → List ℕ → Result (Change K) EditRefusal
  split_of x k m n ns = split_told less same x.memory (reverse x.pending) x.root (open_bits x.rows) k m n ns

  abbrev pub advance_of : State (Cells K) → List ℕ → Result (Change K) EditRefusal
  advance_of x ns = advanced x.memory (reverse x.pending) x.root (open_bits x.rows) ns

  -- the counts are those of the marks, and change nothing
  abbrev pub CountsDo : State (Cells K) → Outcome K F → State (Cells K) → Type 0
  CountsDo x a y = let n = pool_counts x.memory in (a ≡ Ok (Nodes n.live n.waiting n.free)) × (y ≡ x)

  abbrev pub Acts : Call K → State (Cells K) → Outcome K F → State (Cells K) → Type 0
  Acts (Put low high rows) x a y = EditDoes (put_of x (region low high rows)) x a y
  Acts (Drop k) x a y = EditDoes (drop_of x k) x a y
  Acts (Split k m n) x a y = EditDoes (split_of x k m n) x a y
  Acts Advance x a y = EditDoes (advance_of x) x a y
  Acts (Open s k) x a y = ActDoes s (ToOpen k x.root) x a y
  Acts (Step s) x a y = ActDoes s ToStep x a y
  Acts (Close s) x a y = ActDoes s ToClose x a y
  Acts Counts x a y = CountsDo x a y

  -- refused for what it asked, with nothing changed, or done
  abbrev pub DoesBy : Option (Refusal F) → Call K → State (Cells K) → Outcome K F → State (Cells K) → Type 0
  DoesBy (Some r) c x a y = (a ≡ Err r) × (y ≡ x)
  DoesBy None c x a y = Acts c x a y

  abbrev pub DoesCells : State (Cells K) → Call K → Outcome K F → State (Cells K) → Type 0
  DoesCells x c a y = DoesBy (asked x c) c x a y

  -- THE MAKING
  pub record MakesCells (cs : Cells K) (z : State (Cells K)) : Type 0 where
    pub cells : Rewritten (making kd.filler (length cs)) cs z.memory
    pub root : z.root ≡ 0
    pub pending : z.pending ≡ []
    pub rows : z.rows ≡ replicate 32 (row closed 0 0)

  -- OVER MEMORIES that mean cells: what is fit stays fit
  module _ {M : Type 0} (cells : M → Cells K) (fit : M → Type 0) where
    pub record Does (x : State M) (c : Call K) (a : Outcome K F) (y : State M) : Type 0 where
      pub does : DoesCells (meant cells x) c a (meant cells y)
      pub keeps : fit x.memory → fit y.memory

    pub record Makes (m : M) (z : State M) : Type 0 where
      pub makes : MakesCells (cells m) (meant cells z)
      pub keeps : fit m → fit z.memory
