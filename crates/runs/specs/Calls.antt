-- Kinds of keys, regions over them, the number of each refusal, and the edit that a call asks for.
use Rattle.std.specs.Prelude.{ℕ, Bool, true, false, Some, None, Ok, Err, Option, Result}
use Rattle.std.specs.declared.cmp.Ordering.{Ordering}
use Rattle.trees.specs.Regions.{Ranges, ranges}
use Rattle.trees.specs.Edits.{Edit, Put as put_edit, Drop as drop_edit, Split as split_edit, Advance as advance_edit}
use Rattle.store.specs.Nodes.{region}
use Rattle.store.specs.declared.node.Region.{Region}
use Rattle.requests.specs.declared.call.Call.{Call}
use Rattle.requests.specs.declared.call.Call.TheVariants.{Put, Drop, Split, Advance, Open, Step, Close, Counts}
use Rattle.runs.specs.declared.call.Refusal.{Refusal}
use Rattle.runs.specs.declared.call.Refusal.TheVariants.{BadSize, NoSession, HasLookup, NoLookup, IllFormed, NotBelow, UnderWay, AtRest, Overlaps, NoRegion, SameAsLow, Full, FewFree, StoreRefused}
use Rattle.runs.specs.declared.call.Answer.{Answer}

-- a kind of keys: the fault of an ill-formed key, how two keys compare, and the key that stands where there is none
pub record Kind (K F : Type 0) : Type 0 where
  pub fault : K → Option F
  pub order : K → K → Ordering
  pub filler : K

abbrev pub kind : {K F : Type 0} → (K → Option F) → (K → K → Ordering) → K → Kind K F
kind fault order filler = record { fault = fault; order = order; filler = filler }

-- the regions over the keys of a kind
abbrev pub regions : {K F : Type 0} → Kind K F → Ranges K (Region K)
regions kd = ranges kd.fault kd.order (λ x. x.low) (λ x. x.high)

-- the two parts of a region at b, with these rows
abbrev pub lower_part : {K : Type 0} → K → ℕ → Region K → Region K
lower_part b rows x = region x.low b rows

abbrev pub upper_part : {K : Type 0} → K → ℕ → Region K → Region K
upper_part b rows x = region b x.high rows

-- the edit that a call asks for, if it asks for one
abbrev pub edit_of : {K : Type 0} → Call K → Option (Edit K (Region K))
edit_of (Put low high rows) = Some (put_edit (region low high rows))
edit_of (Drop k) = Some (drop_edit k)
edit_of (Split b m n) = Some (split_edit b (lower_part b m) (upper_part b n))
edit_of Advance = Some advance_edit
edit_of (Open s k) = None
edit_of (Step s) = None
edit_of (Close s) = None
edit_of Counts = None

-- the number of each refusal
abbrev pub number_of : {F : Type 0} → Refusal F → ℕ
number_of BadSize = 1
number_of NoSession = 2
number_of HasLookup = 3
number_of NoLookup = 4
number_of (IllFormed a f) = 5
number_of NotBelow = 6
number_of UnderWay = 7
number_of AtRest = 8
number_of Overlaps = 9
number_of NoRegion = 10
number_of SameAsLow = 11
number_of Full = 12
number_of FewFree = 13
number_of (StoreRefused d f) = 14

-- what a call comes to: its answer, or why it is refused
abbrev pub Outcome : Type 0 → Type 0 → Type 0
Outcome K F = Result (Answer K) (Refusal F)

-- a call that is not refused is accepted
abbrev pub accepted : {K F : Type 0} → Outcome K F → Bool
accepted (Ok a) = true
accepted (Err r) = false
