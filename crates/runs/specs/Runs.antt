-- Runs: a catalogue and its memory from the making on, in the sole care of the eight calls. The newest call comes first.
use Rattle.std.specs.Prelude.{◌≡◌, ℕ, suc, ◌-◌, ◌<◌, false, T, List, [], ◌∷◌, length, drop}
use Rattle.requests.specs.declared.call.Call.{Call}
use Rattle.runs.specs.Histories.{History, open_since}
use Rattle.runs.specs.States.{State, Cells, meant, InTree, member}
use Rattle.runs.specs.Calls.{Outcome}

-- a call of a run, its answer, and the state after it
pub record Turn (M K F : Type 0) : Type 0 where
  pub call : Call K
  pub answer : Outcome K F
  pub after : State M

module _ {M K F : Type 0} where
  abbrev pub turn : Call K → Outcome K F → State M → Turn M K F
  turn c a y = record { call = c; answer = a; after = y }

  abbrev pub history : List (Turn M K F) → History K F
  history [] = []
  history (t ∷ ts) = record { call = t.call; answer = t.answer } ∷ history ts

  -- the state after the calls ts, from the state z of the making
  abbrev pub state : State M → List (Turn M K F) → State M
  state z [] = z
  state z (t ∷ ts) = t.after

  -- the state at moment m
  abbrev pub state_at : State M → List (Turn M K F) → ℕ → State M
  state_at z ts m = state z (drop (length ts - m) ts)

  -- the calls as they are seen through what a memory means
  abbrev pub meant_turns : {C : Type 0} → (M → C) → List (Turn M K F) → List (Turn C K F)
  meant_turns f [] = []
  meant_turns f (t ∷ ts) = record { call = t.call; answer = t.answer; after = meant f t.after } ∷ meant_turns f ts

  -- EVERY RUN: the making over a fit memory, then calls, each on the state that the one before it left. What a fit memory is, and
  -- what the making and the calls do, are parameters; nothing more is asked of a step.
  pub data Run (fit : M → Type 0) (Makes : M → State M → Type 0) (Does : State M → Call K → Outcome K F → State M → Type 0)
      (z : State M) : List (Turn M K F) → Type 0 where
    making : (m : M) → fit m → Makes m z → Run fit Makes Does z []
    calling :
        (ts : List (Turn M K F)) (c : Call K) (a : Outcome K F) (y : State M) →
        Run fit Makes Does z ts → Does (state z ts) c a y → Run fit Makes Does z (turn c a y ∷ ts)

module _ {K F : Type 0} where
  -- the node q left the tree in the call after moment i
  pub record LeftAfter (z : State (Cells K)) (ts : List (Turn (Cells K) K F)) (i q : ℕ) : Type 0 where
    pub within : i < length ts
    pub was_in : InTree (state_at z ts i) q
    pub is_out : InTree (state_at z ts (suc i)) q → ⊥

  -- the node q left the tree during a lookup still open
  pub record LeftDuring (z : State (Cells K)) (ts : List (Turn (Cells K) K F)) (q : ℕ) : Type 0 where
    pub moment : ℕ
    pub session : ℕ
    pub left : LeftAfter z ts moment q
    pub still_open : T (open_since (history ts) moment session)

abbrev pub AllDifferent : List ℕ → Type 0
AllDifferent [] = Unit {0}
AllDifferent (q ∷ qs) = (member q qs ≡ false) × AllDifferent qs

-- n is the number of the nodes of which P holds
pub record NumberOf (P : ℕ → Type 0) (n : ℕ) : Type 0 where
  pub nodes : List ℕ
  pub different : AllDifferent nodes
  pub each : (q : ℕ) → T (member q nodes) → P q
  pub every : (q : ℕ) → P q → T (member q nodes)
  pub many : length nodes ≡ n
