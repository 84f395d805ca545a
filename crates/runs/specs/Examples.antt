-- Histories of whole keys, read by the definitions.
use Rattle.std.specs.Prelude.{◌≡◌, ℕ, List, [], ◌∷◌, pos, Some, None, Option, Ok, Err}
use Rattle.std.specs.declared.convert.Infallible.{Infallible}
use Rattle.keys.specs.declared.whole.Whole.{Whole}
use Rattle.keys.specs.Wholes.{whole_fault, whole_order, whole_filler}
use Rattle.trees.specs.Regions.{gives}
use Rattle.store.specs.Nodes.{region}
use Rattle.store.specs.declared.node.Region.{Region}
use Rattle.requests.specs.declared.call.Call.{Call}
use Rattle.requests.specs.declared.call.Call.TheVariants.{Put, Drop, Advance, Open, Step, Close, Counts}
use Rattle.runs.specs.declared.call.Answer.TheVariants.{Pending, Opened, Closed, On, Nothing, Found, Nodes}
use Rattle.runs.specs.declared.call.Refusal.TheVariants.{UnderWay, HasLookup, NoLookup, NoRegion}
use Rattle.runs.specs.Calls.{Kind, kind, regions, Outcome}
use Rattle.runs.specs.Histories.{Event, History, at, set_of, to_do, First, Lookup, lookup, open_since, seat_key, bits}
use Rattle.runs.specs.Promise.{TrueAt}

abbrev pub wholes : Kind Whole Infallible
wholes = kind whole_fault whole_order whole_filler

abbrev pub key : ℕ → Whole
key n = record { 0 = pos n }

-- the region [a, b) with these rows
abbrev pub span : ℕ → ℕ → ℕ → Region Whole
span a b rows = region (key a) (key b) rows

abbrev pub put : ℕ → ℕ → ℕ → Call Whole
put a b rows = Put (key a) (key b) rows

abbrev pub did : Call Whole → Outcome Whole Infallible → Event Whole Infallible
did c a = record { call = c; answer = a }

abbrev pub set_at : ℕ → History Whole Infallible → List (Region Whole)
set_at m h = set_of wholes (at m h)

-- what the set gives for a key at a moment
abbrev pub gives_at : ℕ → History Whole Infallible → ℕ → Option (Region Whole)
gives_at m h k = gives (regions wholes) (set_at m h) (key k)

abbrev pub lookup_at : ℕ → History Whole Infallible → ℕ → Option (Lookup Whole)
lookup_at m h s = lookup s (at m h)

-- a lookup of a key since a moment, with so many accepted steps, and not answered; answered with g after n steps, at a moment
abbrev pub going_lookup : ℕ → ℕ → ℕ → Option (Lookup Whole)
going_lookup k since steps = Some (record { key = key k; since = since; steps = steps; first = None })

abbrev pub told_first : Option (Region Whole) → ℕ → ℕ → First Whole
told_first g n moment = record { gave = g; steps = n; moment = moment }

abbrev pub answered_lookup : ℕ → ℕ → ℕ → First Whole → Lookup Whole
answered_lookup k since steps f = record { key = key k; since = since; steps = steps; first = Some f }

-- put [10,20) rows 5; put [30,40) rows 7; advance; open 0 for 35; step; drop 35; step; counts; close; counts; drop 10; advance
abbrev pub printed : History Whole Infallible
printed =
    did Advance (Ok (Pending 0)) ∷ (did (Drop (key 10)) (Err UnderWay) ∷ (did Counts (Ok (Nodes 1 0 223)) ∷ (did (Close 0) (Ok Closed) ∷
    (did Counts (Ok (Nodes 1 1 222)) ∷ (did (Step 0) (Ok (Found (span 30 40 7) 2)) ∷ (did (Drop (key 35)) (Ok (Pending 1)) ∷ (did (Step 0) (Ok (On 1)) ∷
    (did (Open 0 (key 35)) (Ok Opened) ∷ (did Advance (Ok (Pending 0)) ∷ (did (put 30 40 7) (Ok (Pending 1)) ∷ (did (put 10 20 5) (Ok (Pending 0)) ∷ [])))))))))))

abbrev pub first_region : List (Region Whole)
first_region = span 10 20 5 ∷ []

abbrev pub both_regions : List (Region Whole)
both_regions = span 10 20 5 ∷ (span 30 40 7 ∷ [])

pub record PrintedReads : Type 0 where
  -- the set at each of the 13 moments
  pub sets_empty : set_at 0 printed ≡ []
  pub sets_one : set_at 1 printed ≡ first_region
  pub sets_two : (set_at 2 printed ≡ both_regions) × (set_at 3 printed ≡ both_regions) × (set_at 4 printed ≡ both_regions) × (set_at 5 printed ≡ both_regions)
  pub sets_dropped :
      (set_at 6 printed ≡ first_region) × (set_at 7 printed ≡ first_region) × (set_at 8 printed ≡ first_region) × (set_at 9 printed ≡ first_region)
  pub sets_refused : (set_at 10 printed ≡ first_region) × (set_at 11 printed ≡ first_region) × (set_at 12 printed ≡ first_region)
  -- an edit is under way from moment 2 to 3, and from 6 to 12
  pub edits : (to_do (at 1 printed) ≡ 0) × (to_do (at 2 printed) ≡ 1) × (to_do (at 3 printed) ≡ 0) × (to_do (at 5 printed) ≡ 0)
  pub edits_again : (to_do (at 6 printed) ≡ 1) × (to_do (at 11 printed) ≡ 1) × (to_do (at 12 printed) ≡ 0)
  -- session 0 has a lookup from moment 4 to 8, answered at moment 7; session 1 has none
  pub lookups_none : (lookup_at 3 printed 0 ≡ None) × (lookup_at 9 printed 0 ≡ None) × (lookup_at 12 printed 0 ≡ None) × (lookup_at 8 printed 1 ≡ None)
  pub lookups_going : (lookup_at 4 printed 0 ≡ going_lookup 35 4 0) × (lookup_at 5 printed 0 ≡ going_lookup 35 4 1) × (lookup_at 6 printed 0 ≡ going_lookup 35 4 1)
  pub lookups_told :
      (lookup_at 7 printed 0 ≡ Some (answered_lookup 35 4 2 (told_first (Some (span 30 40 7)) 2 7))) ×
      (lookup_at 8 printed 0 ≡ Some (answered_lookup 35 4 2 (told_first (Some (span 30 40 7)) 2 7)))
  -- the set gave the region at moments 4 and 5, and no more from moment 6 on: the answer at moment 7 is true
  pub gave : (gives_at 4 printed 35 ≡ Some (span 30 40 7)) × (gives_at 5 printed 35 ≡ Some (span 30 40 7)) × (gives_at 6 printed 35 ≡ None)
  pub answer_true : TrueAt wholes (at 7 printed) (answered_lookup 35 4 2 (told_first (Some (span 30 40 7)) 2 7)) (told_first (Some (span 30 40 7)) 2 7)
  -- a node that left in call 6, after moment 5, waits for session 0 up to moment 8
  pub waits : (bits (open_since (at 8 printed) 5) 32 ≡ 1) × (bits (open_since (at 9 printed) 5) 32 ≡ 0)

-- A session opened again, an answer repeated, and refused calls between: each is a moment

abbrev pub reopened : History Whole Infallible
reopened =
    did (Step 0) (Ok (On 1)) ∷ (did (Open 0 (key 12)) (Err HasLookup) ∷ (did (Open 0 (key 12)) (Ok Opened) ∷ (did (Step 0) (Err NoLookup) ∷
    (did (Close 0) (Ok Closed) ∷ (did (Step 0) (Ok (Nothing 1)) ∷ (did (put 30 40 7) (Ok (Pending 0)) ∷ (did (Step 0) (Ok (Nothing 1)) ∷
    (did (Drop (key 5)) (Err NoRegion) ∷ (did (Open 0 (key 35)) (Ok Opened) ∷ [])))))))))

pub record ReopenedReads : Type 0 where
  pub refused_is_a_moment : lookup_at 3 reopened 0 ≡ Some (answered_lookup 35 1 1 (told_first None 1 3))
  -- the put came after the first answer; the repeated step is an accepted step, and changes neither the answer nor its moment
  pub repeated : lookup_at 5 reopened 0 ≡ Some (answered_lookup 35 1 2 (told_first None 1 3))
  pub closed : lookup_at 7 reopened 0 ≡ None
  pub anew : (lookup_at 8 reopened 0 ≡ going_lookup 12 8 0) × (lookup_at 9 reopened 0 ≡ going_lookup 12 8 0) × (lookup_at 10 reopened 0 ≡ going_lookup 12 8 1)
  -- what left in call 4, after moment 3, waits for session 0's first lookup and not for its second
  pub first_lookup : (bits (open_since (at 5 reopened) 3) 32 ≡ 1) × (bits (open_since reopened 3) 32 ≡ 0)
  -- a node that leaves in the very next call after an open waits for it; one that left in the call before does not
  pub edges : (bits (open_since reopened 8) 32 ≡ 1) × (bits (open_since reopened 7) 32 ≡ 0)
  pub seats : (seat_key (key 0) 0 (at 7 reopened) ≡ key 35) × (seat_key (key 0) 0 reopened ≡ key 12)

-- UNTRUE ANSWERS: a region that stood only before the opening, none while the region stands all the time, a region put after the answer

abbrev pub stale : History Whole Infallible
stale =
    did (Step 0) (Ok (Found (span 30 40 7) 1)) ∷ (did (Open 0 (key 35)) (Ok Opened) ∷ (did (Drop (key 35)) (Ok (Pending 0)) ∷ (did (put 30 40 7) (Ok (Pending 0)) ∷ [])))

abbrev pub blind : History Whole Infallible
blind = did (Step 0) (Ok (Nothing 1)) ∷ (did (Open 0 (key 35)) (Ok Opened) ∷ (did (put 30 40 7) (Ok (Pending 0)) ∷ []))

abbrev pub early : History Whole Infallible
early = did (put 30 40 7) (Ok (Pending 0)) ∷ (did (Step 0) (Ok (Found (span 30 40 7) 1)) ∷ (did (Open 0 (key 35)) (Ok Opened) ∷ []))

-- the history has this lookup, first answered so, and no moment makes the answer true
pub record Untrue (h : History Whole Infallible) (since : ℕ) (f : First Whole) : Type 0 where
  pub has : lookup 0 h ≡ Some (answered_lookup 35 since 1 f)
  pub fails : TrueAt wholes h (answered_lookup 35 since 1 f) f → ⊥

pub record UntrueFail : Type 0 where
  pub a_stale_answer : Untrue stale 3 (told_first (Some (span 30 40 7)) 1 4)
  pub a_blind_answer : Untrue blind 2 (told_first None 1 3)
  pub an_early_answer : Untrue early 1 (told_first (Some (span 30 40 7)) 1 2)
