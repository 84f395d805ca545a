-- What follows from a history alone: from the calls, their arguments and their answers. The newest call comes first.
-- Moment 0 is after the making, and moment m after call number m. Refused calls are calls too, and have their moments.
use Rattle.std.specs.Prelude.{ℕ, zero, suc, ◌+◌, ◌-◌, ◌^◌, Bool, false, cond, List, [], ◌∷◌, length, drop, Some, None, Option, ◌==◌, nat_le, Ok, Err}
use Rattle.trees.specs.Edits.{Edit, set_after}
use Rattle.store.specs.declared.node.Region.{Region}
use Rattle.requests.specs.declared.call.Call.{Call}
use Rattle.requests.specs.declared.call.Call.TheVariants.{Put, Drop, Split, Advance, Open, Step, Close, Counts}
use Rattle.runs.specs.declared.call.Answer.TheVariants.{Pending, Opened, Closed, On, Nothing, Found, Nodes}
use Rattle.runs.specs.Calls.{Kind, regions, edit_of, accepted, Outcome}

pub record Event (K F : Type 0) : Type 0 where
  pub call : Call K
  pub answer : Outcome K F

abbrev pub History : Type 0 → Type 0 → Type 0
History K F = List (Event K F)

-- the history as it was at moment m
abbrev pub at : {K F : Type 0} → ℕ → History K F → History K F
at m h = drop (length h - m) h

-- THE REGION SET: empty at the making; an accepted put, drop or split changes it in that call, and nothing else does

module _ {K F : Type 0} (kd : Kind K F) where
  abbrev pub changed : Option (Edit K (Region K)) → List (Region K) → List (Region K)
  changed None xs = xs
  changed (Some e) xs = set_after (regions kd) e xs

  abbrev pub set_of : History K F → List (Region K)
  set_of [] = []
  set_of (e ∷ h) = cond (accepted e.answer) (changed (edit_of e.call) (set_of h)) (set_of h)

-- THE EDIT UNDER WAY

abbrev pub last_told : {K F : Type 0} → Outcome K F → ℕ → ℕ
last_told (Ok (Pending n)) m = n
last_told (Ok Opened) m = m
last_told (Ok Closed) m = m
last_told (Ok (On n)) m = m
last_told (Ok (Nothing n)) m = m
last_told (Ok (Found x n)) m = m
last_told (Ok (Nodes a b c)) m = m
last_told (Err r) m = m

-- how many nodes are pending, as last told; 0 at rest
abbrev pub to_do : {K F : Type 0} → History K F → ℕ
to_do [] = 0
to_do (e ∷ h) = last_told e.answer (to_do h)

-- LOOKUPS

-- a lookup's first found or none, with the steps that it told, and the moment after that step
pub record First (K : Type 0) : Type 0 where
  pub gave : Option (Region K)
  pub steps : ℕ
  pub moment : ℕ

-- an open lookup: its key, the moment after its open, its accepted steps, and its first found or none if it is answered
pub record Lookup (K : Type 0) : Type 0 where
  pub key : K
  pub since : ℕ
  pub steps : ℕ
  pub first : Option (First K)

abbrev pub begun_by : {K : Type 0} → ℕ → Option (Lookup K) → Bool
begun_by i None = false
begun_by i (Some l) = nat_le l.since i

abbrev pub seat_after : {K : Type 0} → ℕ → Call K → K → K
seat_after s (Open j k) was = cond (j == s) k was
seat_after s (Step j) was = was
seat_after s (Close j) was = was
seat_after s (Put low high rows) was = was
seat_after s (Drop k) was = was
seat_after s (Split b i j) was = was
seat_after s Advance was = was
seat_after s Counts was = was

module _ {K F : Type 0} where
  abbrev pub told : ℕ → Outcome K F → Option (First K)
  told m (Ok (Found x n)) = Some (record { gave = Some x; steps = n; moment = m })
  told m (Ok (Nothing n)) = Some (record { gave = None; steps = n; moment = m })
  told m (Ok (On n)) = None
  told m (Ok (Pending n)) = None
  told m (Ok Opened) = None
  told m (Ok Closed) = None
  told m (Ok (Nodes a b c)) = None
  told m (Err r) = None

  -- the first answer stays
  abbrev pub first_told : ℕ → Outcome K F → Option (First K) → Option (First K)
  first_told m a None = told m a
  first_told m a (Some f) = Some f

  abbrev pub with_step : ℕ → Outcome K F → Option (Lookup K) → Option (Lookup K)
  with_step m a None = None
  with_step m a (Some l) = Some (record { key = l.key; since = l.since; steps = suc l.steps; first = first_told m a l.first })

  -- session s's lookup after an accepted call, which ends at moment m
  abbrev pub lookup_after : ℕ → ℕ → Call K → Outcome K F → Option (Lookup K) → Option (Lookup K)
  lookup_after s m (Open j k) a o = cond (j == s) (Some (record { key = k; since = m; steps = 0; first = None })) o
  lookup_after s m (Step j) a o = cond (j == s) (with_step m a o) o
  lookup_after s m (Close j) a o = cond (j == s) None o
  lookup_after s m (Put low high rows) a o = o
  lookup_after s m (Drop k) a o = o
  lookup_after s m (Split b i j) a o = o
  lookup_after s m Advance a o = o
  lookup_after s m Counts a o = o

  -- session s's open lookup, if it has one: from an accepted open to the session's next accepted close
  abbrev pub lookup : ℕ → History K F → Option (Lookup K)
  lookup s [] = None
  lookup s (e ∷ h) = cond (accepted e.answer) (lookup_after s (suc (length h)) e.call e.answer (lookup s h)) (lookup s h)

  -- session s has a lookup still open that was open at moment i already
  abbrev pub open_since : History K F → ℕ → ℕ → Bool
  open_since h i s = begun_by i (lookup s h)

  -- what session s's seat holds: the key of its last accepted open, at first the filler
  abbrev pub seat_key : K → ℕ → History K F → K
  seat_key filler s [] = filler
  seat_key filler s (e ∷ h) = cond (accepted e.answer) (seat_after s e.call (seat_key filler s h)) (seat_key filler s h)

-- the bits of the sessions below n that a test picks: bit s for session s
abbrev pub bits : (ℕ → Bool) → ℕ → ℕ
bits f zero = 0
bits f (suc n) = bits f n + cond (f n) (2 ^ n) 0
