-- The table of refusals: which lines fit a call, and which of them is told.
use Rattle.std.specs.Prelude.{◌≡◌, ℕ, ◌-◌, ◌<◌, ◌≤◌, Bool, true, false, cond, ◌||◌, T, List, [], ◌∷◌, length, Some, None, Option}
use Rattle.std.specs.declared.cmp.Ordering.TheVariants.{Equal}
use Rattle.store.specs.Fits.{InRange}
use Rattle.trees.specs.Regions.{below, gives, overlaps}
use Rattle.trees.specs.Trees.{Tree, leaf, node, seek}
use Rattle.trees.specs.Rotations.{too_heavy}
use Rattle.trees.specs.Edits.{Frame, frame, Place, whole, descend, standing}
use Rattle.store.specs.Nodes.{region}
use Rattle.store.specs.declared.node.Region.{Region}
use Rattle.requests.specs.declared.call.Call.{Call}
use Rattle.requests.specs.declared.call.Call.TheVariants.{Put, Drop, Split, Advance, Open, Step, Close, Counts}
use Rattle.runs.specs.declared.call.Argument.{Argument}
use Rattle.runs.specs.declared.call.Argument.TheVariants.{Low, High, Key}
use Rattle.runs.specs.declared.call.Refusal.{Refusal}
use Rattle.runs.specs.declared.call.Refusal.TheVariants.{BadSize, NoSession, HasLookup, NoLookup, IllFormed, NotBelow, UnderWay, AtRest, Overlaps, NoRegion, SameAsLow, Full, FewFree}
use Rattle.runs.specs.Calls.{Kind, regions, number_of}
use Rattle.runs.specs.Histories.{History, Lookup, lookup, set_of, to_do}
use Rattle.runs.specs.States.{State, Cells, pool, free_nodes}

-- what a call finds: the history before it, the state, and the tree of that state with the link below its pending nodes
pub record Scene (K F : Type 0) : Type 0 where
  pub past : History K F
  pub state : State (Cells K)
  pub place : Place ℕ (Region K)

-- WHICH CALLS A LINE IS FOR

module _ {K : Type 0} where
  -- open, step, close: the session
  abbrev pub session_of : Call K → Option ℕ
  session_of (Open s k) = Some s
  session_of (Step s) = Some s
  session_of (Close s) = Some s
  session_of (Put low high rows) = None
  session_of (Drop k) = None
  session_of (Split b m n) = None
  session_of Advance = None
  session_of Counts = None

  -- step, close: the session whose lookup they go on with
  abbrev pub lookup_session : Call K → Option ℕ
  lookup_session (Step s) = Some s
  lookup_session (Close s) = Some s
  lookup_session (Open s k) = None
  lookup_session (Put low high rows) = None
  lookup_session (Drop k) = None
  lookup_session (Split b m n) = None
  lookup_session Advance = None
  lookup_session Counts = None

  -- put, drop, split, open: the arguments that are keys, in their order
  abbrev pub keys_of : Call K → List (Argument × K)
  keys_of (Put low high rows) = (Low, low) ∷ ((High, high) ∷ [])
  keys_of (Drop k) = (Key, k) ∷ []
  keys_of (Split b m n) = (Key, b) ∷ []
  keys_of (Open s k) = (Key, k) ∷ []
  keys_of Advance = []
  keys_of (Step s) = []
  keys_of (Close s) = []
  keys_of Counts = []

  -- put, drop, split begin an edit
  abbrev pub begins_edit : Call K → Bool
  begins_edit (Put low high rows) = true
  begins_edit (Drop k) = true
  begins_edit (Split b m n) = true
  begins_edit Advance = false
  begins_edit (Open s k) = false
  begins_edit (Step s) = false
  begins_edit (Close s) = false
  begins_edit Counts = false

  -- drop, split: the key whose region they are for
  abbrev pub region_key : Call K → Option K
  region_key (Drop k) = Some k
  region_key (Split b m n) = Some b
  region_key (Put low high rows) = None
  region_key Advance = None
  region_key (Open s k) = None
  region_key (Step s) = None
  region_key (Close s) = None
  region_key Counts = None

  -- put, split add a region
  abbrev pub adds_region : Call K → Bool
  adds_region (Put low high rows) = true
  adds_region (Split b m n) = true
  adds_region (Drop k) = false
  adds_region Advance = false
  adds_region (Open s k) = false
  adds_region (Step s) = false
  adds_region (Close s) = false
  adds_region Counts = false

-- the first argument that is ill formed, with its fault
abbrev pub or_fault : {F : Type 0} → Argument → Option F → Option (Argument × F) → Option (Argument × F)
or_fault a (Some f) rest = Some (a, f)
or_fault a None rest = rest

abbrev pub first_ill : {K F : Type 0} → (K → Option F) → List (Argument × K) → Option (Argument × F)
first_ill fault [] = None
first_ill fault (x ∷ xs) = or_fault x.0 (fault x.1) (first_ill fault xs)

-- HOW MANY FREE NODES A CALL MAY TAKE

abbrev pub both_sides : {R : Type 0} → Tree ℕ R → Bool
both_sides leaf = false
both_sides (node n leaf x r) = false
both_sides (node n (node m a y b) x leaf) = false
both_sides (node n (node m a y b) x (node j c z d)) = true

-- whether an advance rotates: the lowest node of the path is out of balance over the tree t
abbrev pub rotates : {R : Type 0} → List (Frame ℕ R) → Tree ℕ R → Bool
rotates [] t = false
rotates (frame s n x u ∷ fs) t = too_heavy (standing t) (standing u) || too_heavy (standing u) (standing t)

module _ {K F : Type 0} (kd : Kind K F) where
  -- the tree under the link at which the search for k ends
  abbrev pub found_under : K → Place ℕ (Region K) → Tree ℕ (Region K)
  found_under k p = (descend (seek (regions kd) k) [] (whole p)).under

  -- put 1; a drop with both sides and every split 96; an advance that rotates 3
  abbrev pub free_needed : Call K → Place ℕ (Region K) → ℕ
  free_needed (Put low high rows) p = 1
  free_needed (Drop k) p = cond (both_sides (found_under k p)) 96 0
  free_needed (Split b m n) p = 96
  free_needed Advance p = cond (rotates p.above p.under) 3 0
  free_needed (Open s k) p = 0
  free_needed (Step s) p = 0
  free_needed (Close s) p = 0
  free_needed Counts p = 0

  -- THE TABLE: a line fits a call. Line 14 has no case: over a fit store it never fits.
  pub data Fits (x : Scene K F) : Call K → Refusal F → Type 0 where
    size : (c : Call K) → (InRange (length x.state.memory) → ⊥) → Fits x c BadSize
    no_session : (c : Call K) (s : ℕ) → session_of c ≡ Some s → 31 < s → Fits x c NoSession
    has_lookup : (s : ℕ) (k : K) (l : Lookup K) → lookup s x.past ≡ Some l → Fits x (Open s k) HasLookup
    no_lookup : (c : Call K) (s : ℕ) → lookup_session c ≡ Some s → lookup s x.past ≡ None → Fits x c NoLookup
    ill_formed : (c : Call K) (a : Argument) (f : F) → first_ill kd.fault (keys_of c) ≡ Some (a, f) → Fits x c (IllFormed a f)
    not_below : (low high : K) (rows : ℕ) → below (regions kd) low high ≡ false → Fits x (Put low high rows) NotBelow
    under_way : (c : Call K) → T (begins_edit c) → 0 < to_do x.past → Fits x c UnderWay
    at_rest : to_do x.past ≡ 0 → Fits x Advance AtRest
    overlapping :
        (low high : K) (rows : ℕ) → T (overlaps (regions kd) (region low high rows) (set_of kd x.past)) → Fits x (Put low high rows) Overlaps
    no_region : (c : Call K) (k : K) → region_key c ≡ Some k → gives (regions kd) (set_of kd x.past) k ≡ None → Fits x c NoRegion
    same_as_low :
        (b : K) (m n : ℕ) (y : Region K) → gives (regions kd) (set_of kd x.past) b ≡ Some y → kd.order y.low b ≡ Equal →
        Fits x (Split b m n) SameAsLow
    full : (c : Call K) → T (adds_region c) → length (set_of kd x.past) ≡ pool x.state.memory - 96 → Fits x c Full
    few_free : (c : Call K) → free_nodes x.state.memory < free_needed c x.place → Fits x c FewFree

  -- of two lines that fit, the smaller
  pub record FirstLine (x : Scene K F) (c : Call K) (r : Refusal F) : Type 0 where
    pub fits : Fits x c r
    pub smallest : (r' : Refusal F) → Fits x c r' → number_of r ≤ number_of r'
