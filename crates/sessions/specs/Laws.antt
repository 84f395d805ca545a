-- What the calls of a session mean, beyond what each does: laws over every store and every key.
use Rattle.std.specs.Prelude.{◌≡◌, ℕ, ◌-◌, ◌<◌, true, false, cond, ◌≢◌, List, length, Some, None, Ok, Option, ◌==◌}
use Rattle.std.specs.declared.cmp.Ordering.{Ordering}
use Rattle.std.specs.declared.cmp.Ordering.TheVariants.{Less}
use Rattle.store.specs.declared.node.Node.{Node}
use Rattle.store.specs.Faults.{outside}
use Rattle.store.specs.Cells.{Cell, readable, cell_at, mark_of, read_answer}
use Rattle.sessions.specs.declared.way.Way.{Way}
use Rattle.sessions.specs.declared.way.Way.TheVariants.{Left, Here, Right}
use Rattle.sessions.specs.declared.lookup.Row.{Row}
use Rattle.sessions.specs.declared.lookup.State.TheVariants.{Going, Answered}
use Rattle.sessions.specs.declared.lookup.Call.TheVariants.{Step}
use Rattle.sessions.specs.declared.lookup.Told.{Told}
use Rattle.store.specs.Nodes.{region_of}
use Rattle.sessions.specs.Ways.{way_of}
use Rattle.sessions.specs.Writings.{CellAfter, Rewritten}
use Rattle.sessions.specs.Waiting.{bit, waits_for, release}
use Rattle.sessions.specs.Lookups.{row_done}
use Rattle.sessions.specs.Making.{can_make, made_mark, making, pool_counts}

-- A NODE: what each way says of a key at a region from low to high, all three well formed

abbrev pub WaySays : {K : Type 0} → (K → K → Ordering) → K → K → K → Way → Type 0
WaySays order key low high Left = order key low ≡ Less
WaySays order key low high Here = (order key low ≢ Less) × (order key high ≡ Less)
WaySays order key low high Right = (order key low ≢ Less) × (order key high ≢ Less)

abbrev pub WaysTell : {K F : Type 0} → (K → Option F) → (K → K → Ordering) → Type 0
WaysTell {K} fault order =
    (key low high : K) → fault key ≡ None → fault low ≡ None → fault high ≡ None → WaySays order key low high (way_of fault order key low high)

-- A STEP: once a lookup is answered, each further step tells the same again and leaves the row,
-- as long as the node at its place can be read and has the region that it had

abbrev pub AnswersRepeat : Type 0 → Type 0
AnswersRepeat K = (way : K → K → K → Way) (filler : K) (cs ds : List (Cell K)) (s : ℕ) (row : Row) (t : Told K) →
    let first = row_done way filler cs s row Step in
    let again = row_done way filler ds s first.after Step in
    row.state ≡ Going → first.answer ≡ Ok t → first.after.state ≡ Answered →
    ((u : Node K) → read_answer cs first.after.place ≡ Ok u → (v : Node K) × (read_answer ds first.after.place ≡ Ok v) × (region_of v ≡ region_of u)) →
    (again.answer ≡ Ok t) × (again.after ≡ first.after)

-- CLOSE: the release of session s

-- the node u is v without session s: the other sessions stay, and so does all but the mark, which is free where no session is left
pub record Without {K : Type 0} (s : ℕ) (v u : Node K) : Type 0 where
  pub gone : bit s u.waits ≡ false
  pub others : (t : ℕ) → t ≢ s → bit t u.waits ≡ bit t v.waits
  pub mark : u.mark ≡ cond (u.waits == 0) 0 2
  pub left : u.left ≡ v.left
  pub right : u.right ≡ v.right
  pub size : u.size ≡ v.size
  pub region : region_of u ≡ region_of v

pub record Releases {K : Type 0} (s : ℕ) (cs ds : List (Cell K)) : Type 0 where
  -- no node of the pool waits for the session any more
  pub none_waits : (n : ℕ) (v : Node K) → outside n (length cs) ≡ false → 32 < n → cell_at ds n ≡ readable v → waits_for s v ≡ false
  -- a node of the pool that waited for it is the same without it
  pub released_are : (n : ℕ) (v : Node K) → outside n (length cs) ≡ false → 32 < n → cell_at cs n ≡ readable v → waits_for s v ≡ true →
      (u : Node K) × Without s v u × CellAfter (Some u) (cell_at cs n) (cell_at ds n)
  -- every other node is as it was: the seats, and what does not wait for the session
  pub others_stay : (n : ℕ) → outside n (length cs) ≡ false → ((v : Node K) → 32 < n → cell_at cs n ≡ readable v → waits_for s v ≡ false) → cell_at ds n ≡ cell_at cs n

abbrev pub ReleaseLaw : Type 0 → Type 0
ReleaseLaw K = (s : ℕ) (cs ds : List (Cell K)) → Rewritten (release s cs) cs ds → Releases s cs ds

-- THE MAKING: where a catalogue can be made, every node has its mark afterwards, and the whole pool is free

pub record Made {K : Type 0} (cs ds : List (Cell K)) : Type 0 where
  pub marks : (n : ℕ) → outside n (length cs) ≡ false → mark_of (cell_at ds n) ≡ made_mark n
  pub counts : pool_counts ds ≡ record { live = 0; waiting = 0; free = length cs - 32 }

abbrev pub MakingLaw : Type 0 → Type 0
MakingLaw K = (filler : K) (cs ds : List (Cell K)) → can_make (length cs) ≡ true → Rewritten (making filler (length cs)) cs ds → Made cs ds
