-- What open, step and close of one session answer, what its row is after them, and what they write.
use Rattle.std.specs.Prelude.{◌≡◌, ℕ, zero, suc, ◌+◌, ◌^◌, min, Bool, true, false, cond, List, Some, None, Ok, Err, Option, Result, ◌==◌, nat_lt, slice_index_or, slice_set}
use Rattle.store.specs.declared.node.Node.{Node}
use Rattle.store.specs.declared.fault.StoreFault.{StoreFault}
use Rattle.store.specs.declared.fault.Function.TheVariants.{Read}
use Rattle.store.specs.declared.fault.Cause.TheVariants.{Closed as Unreadable}
use Rattle.store.specs.Faults.{fault_at}
use Rattle.store.specs.Cells.{Cell, read_answer, write_answer}
use Rattle.sessions.specs.declared.fault.SessionFault.{SessionFault}
use Rattle.sessions.specs.declared.fault.SessionFault.TheVariants.{NoSession, HasLookup, NoLookup, Lookup}
use Rattle.sessions.specs.declared.way.Way.{Way}
use Rattle.sessions.specs.declared.way.Way.TheVariants.{Left, Here, Right}
use Rattle.sessions.specs.declared.lookup.Row.{Row}
use Rattle.sessions.specs.declared.lookup.State.{State}
use Rattle.sessions.specs.declared.lookup.State.TheVariants.{Closed, Going, Answered}
use Rattle.sessions.specs.declared.lookup.Call.{Call}
use Rattle.sessions.specs.declared.lookup.Call.TheVariants.{Open, Step, Close}
use Rattle.sessions.specs.declared.lookup.Told.{Told}
use Rattle.sessions.specs.declared.lookup.Told.TheVariants.{Opened, On, Nothing, Found, Ended}
use Rattle.sessions.specs.declared.meeting.Met.{Met}
use Rattle.sessions.specs.declared.meeting.Met.TheVariants.{Blank, Holds, Leads}
use Rattle.store.specs.Nodes.{plain, region_of, link_number}
use Rattle.sessions.specs.Writings.{Writing, nothing_written, only, Rewritten}
use Rattle.sessions.specs.Waiting.{release, closed_waiting}

-- what a call does: its answer, the row or the rows after it, and what it writes
pub record Done (R K : Type 0) : Type 0 where
  pub answer : Result (Told K) SessionFault
  pub after : R
  pub writes : Writing K

-- what a call answered and left is what it was to do: r is its answer, `after` the row or the rows, cs and ds the cells before and after it
pub record Does {R K : Type 0} (d : Done R K) (r : Result (Told K) SessionFault) (after : R) (cs ds : List (Cell K)) : Type 0 where
  pub answer : r ≡ d.answer
  pub row : after ≡ d.after
  pub cells : Rewritten d.writes cs ds

-- a refused call changes nothing
abbrev pub refused : {R K : Type 0} → R → SessionFault → Done R K
refused row e = record { answer = Err e; after = row; writes = nothing_written }

-- an answer after which the row is `row`, and that writes nothing
abbrev pub told : {R K : Type 0} → R → Told K → Done R K
told row t = record { answer = Ok t; after = row; writes = nothing_written }

abbrev pub row_with : State → ℕ → ℕ → Row
row_with s p n = record { state = s; place = p; steps = n }

-- one step more; a lookup that has made 2^64 - 1 steps counts no further
abbrev pub more : ℕ → ℕ
more n = min (n + 1) 18446744073709551615

-- the session of a number: there are the sessions 0 to 31
abbrev pub session_at : ℕ → Result ℕ SessionFault
session_at n = cond (nat_lt 31 n) (Err NoSession) (Ok n)

-- the number of a session's seat
abbrev pub seat_of : ℕ → ℕ
seat_of s = s + 1

module _ {K : Type 0} where
  -- OPEN: the seat is written whole, with the key; the lookup goes from the root link
  abbrev pub opened : K → Row → ℕ → K → ℕ → Result (Unit {0}) StoreFault → Done Row K
  opened filler row s key root (Err e) = refused row (Lookup e)
  opened filler row s key root (Ok u) = record {
    answer = Ok Opened;
    after = row_with Going root 0;
    writes = only (seat_of s) (plain 3 key filler);
  }

  -- STEP, while going

  -- what a link leads on to
  abbrev pub met_link : ℕ → Met K
  met_link l = cond (l == 0) Blank (Leads l)

  -- what is met at node v, by the way of the search there
  abbrev pub met_by : Way → Node K → Met K
  met_by Left v = met_link v.left
  met_by Here v = Holds (region_of v)
  met_by Right v = met_link v.right

  abbrev pub met_node : (K → K → K → Way) → K → Result (Node K) StoreFault → Result (Met K) StoreFault
  met_node way key (Err e) = Err e
  met_node way key (Ok v) = Ok (met_by (way key v.low v.high) v)

  abbrev pub met_seat : (K → K → K → Way) → Result (Node K) StoreFault → Result (Node K) StoreFault → Result (Met K) StoreFault
  met_seat way (Err e) node = Err e
  met_seat way (Ok seat) node = met_node way seat.low node

  -- what a lookup meets at its place: nothing where that is no node; else by the key in the seat and the node, both read
  abbrev pub met_at : (K → K → K → Way) → List (Cell K) → ℕ → Option ℕ → Result (Met K) StoreFault
  met_at way cs seat None = Ok Blank
  met_at way cs seat (Some n) = met_seat way (read_answer cs seat) (read_answer cs n)

  -- none ends the lookup with no place, a region that holds the key ends it there, another node goes on
  abbrev pub moved : Row → Met K → Done Row K
  moved row Blank = told (row_with Answered 0 (more row.steps)) (Nothing (more row.steps))
  moved row (Holds r) = told (row_with Answered row.place (more row.steps)) (Found r (more row.steps))
  moved row (Leads l) = told (row_with Going l (more row.steps)) (On (more row.steps))

  abbrev pub moved_by : Row → Result (Met K) StoreFault → Done Row K
  moved_by row (Err e) = refused row (Lookup e)
  moved_by row (Ok m) = moved row m

  -- STEP, once answered: the answer again, a region from its node
  abbrev pub found_again : Row → Result (Node K) StoreFault → Done Row K
  found_again row (Err e) = refused row (Lookup e)
  found_again row (Ok v) = told row (Found (region_of v) row.steps)

  abbrev pub told_again : List (Cell K) → Row → Option ℕ → Done Row K
  told_again cs row None = told row (Nothing row.steps)
  told_again cs row (Some n) = found_again row (read_answer cs n)

  -- CLOSE: every waiting node is read first; then the session is closed and released
  abbrev pub closed : List (Cell K) → Row → ℕ → Option ℕ → Done Row K
  closed cs row s (Some n) = refused row (Lookup (fault_at Read n Unreadable))
  closed cs row s None = record {
    answer = Ok Ended;
    after = row_with Closed row.place row.steps;
    writes = release s cs;
  }

module _ {K : Type 0} (way : K → K → K → Way) (filler : K) (cs : List (Cell K)) (s : ℕ) where
  abbrev pub done_by : State → Row → Call K → Done Row K
  done_by Closed row (Open key root) = opened filler row s key root (write_answer cs (seat_of s))
  done_by Closed row Step = refused row NoLookup
  done_by Closed row Close = refused row NoLookup
  done_by Going row (Open key root) = refused row HasLookup
  done_by Going row Step = moved_by row (met_at way cs (seat_of s) (link_number row.place))
  done_by Going row Close = closed cs row s (closed_waiting cs)
  done_by Answered row (Open key root) = refused row HasLookup
  done_by Answered row Step = told_again cs row (link_number row.place)
  done_by Answered row Close = closed cs row s (closed_waiting cs)

  -- what a call of session s does, by the state of its row
  unfoldable pub row_done : Row → Call K → Done Row K
  row_done row call = done_by row.state row call

-- the row of session s
abbrev pub row_of : List Row → ℕ → Row
row_of rows s = slice_index_or rows s (row_with Closed 0 0)

-- what is done to one row is done to the table: the others stay
abbrev pub in_table : {K : Type 0} → List Row → ℕ → Done Row K → Done (List Row) K
in_table rows s d = record { answer = d.answer; after = slice_set rows s d.after; writes = d.writes }

-- what a call of a session does; there are the sessions 0 to 31
unfoldable pub session_done : {K : Type 0} → (K → K → K → Way) → K → List (Cell K) → List Row → ℕ → Call K → Done (List Row) K
session_done way filler cs rows s call = cond (nat_lt 31 s) (refused rows NoSession) (in_table rows s (row_done way filler cs s (row_of rows s) call))

-- THE SESSIONS WITH AN OPEN LOOKUP, answered or not

abbrev pub is_open : State → Bool
is_open Closed = false
is_open Going = true
is_open Answered = true

-- bit s for each session s below n that has one
abbrev pub open_upto : List Row → ℕ → ℕ
open_upto rows zero = 0
open_upto rows (suc n) = open_upto rows n + cond (is_open (row_of rows n).state) (2 ^ n) 0
