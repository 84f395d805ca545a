-- What a call does, from the answers of the store that the code has in hand.
use Rattle.std.proofs.Common.{◌≡◌, ℕ, Bool, true, false, cond, List, set, Some, None, Ok, Err, Option, Result, sym, refl, ap, ◌∙◌, subst, arith}
use Rattle.std.specs.Prelude.{nat_lt}
use Rattle.store.specs.declared.node.Node.{Node}
use Rattle.store.specs.declared.fault.StoreFault.{StoreFault}
use Rattle.store.specs.Cells.{Cell, read_answer, write_answer, Written}
use Rattle.sessions.specs.declared.fault.SessionFault.{SessionFault}
use Rattle.sessions.specs.declared.fault.SessionFault.TheVariants.{NoSession, Lookup}
use Rattle.sessions.specs.declared.lookup.Row.{Row}
use Rattle.sessions.specs.declared.way.Way.{Way}
use Rattle.sessions.specs.declared.meeting.Met.{Met}
use Rattle.sessions.specs.declared.meeting.Met.TheVariants.{Blank, Holds, Leads}
use Rattle.sessions.specs.declared.lookup.State.TheVariants.{Closed, Going}
use Rattle.sessions.specs.declared.lookup.Call.{Call}
use Rattle.sessions.specs.declared.lookup.Told.{Told}
use Rattle.sessions.specs.declared.lookup.Told.TheVariants.{Opened, Ended}
use Rattle.store.specs.Nodes.{plain}
use Rattle.sessions.specs.Writings.{Rewritten}
use Rattle.sessions.specs.Waiting.{release, closed_waiting, all_read}
use Rattle.sessions.specs.Lookups.{Does, refused, row_with, seat_of, opened, moved_by, found_again, told_again, closed, row_done, row_of, in_table, session_at, session_done}
use Rattle.sessions.proofs.Rewriting.{nothing_rewritten, only_rewritten, none_rewritten}

module _ {K : Type 0} (filler : K) (row : Row) (s : ℕ) (key : K) (root : ℕ) (cs ds : List (Cell K)) (n : ℕ) (v : Node K) where
  abbrev Opening : Result (Told K) SessionFault → Row → Type 0
  Opening r after = Does (opened filler row s key root (write_answer cs (seat_of s))) r after cs ds

  pub opening_refused : (e : StoreFault) (r : Result (Told K) SessionFault) → n ≡ seat_of s → Err e ≡ write_answer cs n → Written cs n v ds → r ≡ Err (Lookup e) → Opening r row
  opening_refused e r seat h w told =
      let h' : Err e ≡ write_answer cs (seat_of s) = subst (λ m. Err e ≡ write_answer cs m) seat h in
      subst (λ a. Does (opened filler row s key root a) r row cs ds) h'
      (record { answer = told; row = refl; cells = none_rewritten cs ds n v e h w })

  pub opening_taken : (k : K) (after : Row) → after ≡ row_with Going root 0 → n ≡ seat_of s → k ≡ filler → v ≡ plain 3 key k → Ok tt ≡ write_answer cs n → Written cs n v ds →
      Opening (Ok Opened) after
  opening_taken k after starts seat blank whole h w =
      let h' : Ok tt ≡ write_answer cs (seat_of s) = subst (λ m. Ok tt ≡ write_answer cs m) seat h in
      let whole' : v ≡ plain 3 key filler = whole ∙ ap (plain 3 key) blank in
      let w' : Written cs (seat_of s) (plain 3 key filler) ds = subst (λ m. Written cs m (plain 3 key filler) ds) seat (subst (λ u. Written cs n u ds) whole' w) in
      subst (λ a. Does (opened filler row s key root a) (Ok Opened) after cs ds) h'
      (record { answer = refl; row = starts; cells = only_rewritten cs ds (seat_of s) (plain 3 key filler) h' w' })

module _ {K : Type 0} (cs : List (Cell K)) (row : Row) where
  -- a refused call
  pub refusing : (e : SessionFault) → Does (refused row e) (Err e) row cs cs
  refusing e = record { answer = refl; row = refl; cells = nothing_rewritten cs }

  -- a step while going writes nothing
  pub stepping : (m : Result (Met K) StoreFault) (r : Result (Told K) SessionFault) (after : Row) → r ≡ (moved_by row m).answer → after ≡ (moved_by row m).after →
      Does (moved_by row m) r after cs cs
  stepping (Err e) r after p q = record { answer = p; row = q; cells = nothing_rewritten cs }
  stepping (Ok Blank) r after p q = record { answer = p; row = q; cells = nothing_rewritten cs }
  stepping (Ok (Holds x)) r after p q = record { answer = p; row = q; cells = nothing_rewritten cs }
  stepping (Ok (Leads l)) r after p q = record { answer = p; row = q; cells = nothing_rewritten cs }

  found : (a : Result (Node K) StoreFault) (r : Result (Told K) SessionFault) → r ≡ (found_again row a).answer → Does (found_again row a) r row cs cs
  found (Err e) r p = record { answer = p; row = refl; cells = nothing_rewritten cs }
  found (Ok v) r p = record { answer = p; row = refl; cells = nothing_rewritten cs }

  -- a repeated answer changes nothing
  pub repeating : (o : Option ℕ) (r : Result (Told K) SessionFault) → r ≡ (told_again cs row o).answer → Does (told_again cs row o) r row cs cs
  repeating None r p = record { answer = p; row = refl; cells = nothing_rewritten cs }
  repeating (Some n) r p = found (read_answer cs n) r p

  module _ (s : ℕ) where
    closing_by : (o : Option ℕ) (e : StoreFault) (r : Result (Told K) SessionFault) → Err e ≡ all_read o → r ≡ Err (Lookup e) → Does (closed cs row s o) r row cs cs
    closing_by None e r h p = let z : ◌≡◌ {A = ℕ} 0 1 = cc in let w : ⊥ = omega arith in elim w [ ]
    closing_by (Some n) e r h p = record { answer = cc; row = refl; cells = nothing_rewritten cs }

    pub closing_refused : (e : StoreFault) (r : Result (Told K) SessionFault) → Err e ≡ all_read (closed_waiting cs) → r ≡ Err (Lookup e) →
        Does (closed cs row s (closed_waiting cs)) r row cs cs
    closing_refused e r h p = closing_by (closed_waiting cs) e r h p

    pub closing_taken : (ds : List (Cell K)) → closed_waiting cs ≡ None → Rewritten (release s cs) cs ds →
        Does (closed cs row s (closed_waiting cs)) (Ok Ended) (row_with Closed row.place row.steps) cs ds
    closing_taken ds e h =
        subst (λ o. Does (closed cs row s o) (Ok Ended) (row_with Closed row.place row.steps) cs ds) (sym e)
        (record { answer = refl; row = refl; cells = h })

-- what was answered was not refused
pub never_refused : (e : StoreFault) → ◌≡◌ {A = Result (Unit {0}) StoreFault} (Err e) (Ok tt) → ⊥
never_refused e h = let z : ◌≡◌ {A = ℕ} 0 1 = cc in omega arith

all_read_by : (o : Option ℕ) → Ok tt ≡ all_read o → o ≡ None
all_read_by None h = refl
all_read_by (Some n) h = let z : ◌≡◌ {A = ℕ} 0 1 = cc in let w : ⊥ = omega arith in elim w [ ]

-- where every waiting node was read, none is closed
pub all_were_read : {K : Type 0} (cs : List (Cell K)) → Ok tt ≡ all_read (closed_waiting cs) → closed_waiting cs ≡ None
all_were_read cs h = all_read_by (closed_waiting cs) h

module _ {K : Type 0} (way : K → K → K → Way) (filler : K) (cs : List (Cell K)) (rows : List Row) (s : ℕ) (call : Call K) where
  -- a number that is no session's
  pub no_session : (e : SessionFault) (r : Result (Told K) SessionFault) → Err e ≡ session_at s → r ≡ Err e → Does (session_done way filler cs rows s call) r rows cs cs
  unfolding session_done
  no_session e r h told = by_number (nat_lt 31 s) h
    where
      by_number : (b : Bool) → Err e ≡ cond b (Err NoSession) (Ok s) →
          Does (cond b (refused rows NoSession) (in_table rows s (row_done way filler cs s (row_of rows s) call))) r rows cs cs
      by_number true h = let same : e ≡ NoSession = cc in record { answer = told ∙ ap Err same; row = refl; cells = nothing_rewritten cs }
      by_number false h = let z : ◌≡◌ {A = ℕ} 0 1 = cc in let w : ⊥ = omega arith in elim w [ ]

  -- what is done to the row of a session is done to the table
  pub in_the_table : (n i : ℕ) (ds : List (Cell K)) (r : Result (Told K) SessionFault) (row after : Row) → Ok n ≡ session_at s → i ≡ n → row ≡ row_of rows i →
      Does (row_done way filler cs n row call) r after cs ds → Does (session_done way filler cs rows s call) r (set rows i after) cs ds
  unfolding session_done
  in_the_table n i ds r row after h at is d = by_number (nat_lt 31 s) h
    where
      by_number : (b : Bool) → Ok n ≡ cond b (Err NoSession) (Ok s) →
          Does (cond b (refused rows NoSession) (in_table rows s (row_done way filler cs s (row_of rows s) call))) r (set rows i after) cs ds
      by_number true h = let z : ◌≡◌ {A = ℕ} 0 1 = cc in let w : ⊥ = omega arith in elim w [ ]
      by_number false h =
          let same : n ≡ s = cc in
          let here : i ≡ s = at ∙ same in
          let d' : Does (row_done way filler cs s (row_of rows s) call) r after cs ds =
          subst (λ w. Does (row_done way filler cs s w call) r after cs ds) (is ∙ ap (row_of rows) here) (subst (λ m. Does (row_done way filler cs m row call) r after cs ds) same d) in
          record { answer = d'.answer; row = ap (set rows i) d'.row ∙ ap (λ m. set rows m (row_done way filler cs s (row_of rows s) call).after) here; cells = d'.cells }

-- what the calls of a row need
pub ruleset row_answers =
    (opening_refused, opening_taken, refusing, stepping, repeating, closing_refused, closing_taken, never_refused, all_were_read)

pub ruleset table_answers = (no_session, in_the_table)
