-- The keys of a call: what holds of each, and calls that differ only in them.
use Rattle.std.specs.Prelude.{◌≡◌}
use Rattle.requests.specs.declared.call.Call.{Call}
use Rattle.requests.specs.declared.call.Call.TheVariants.{Put, Drop, Split, Advance, Open, Step, Close, Counts}

module _ {K : Type 0} (P : K → Type 0) where
  -- P holds of each key of a call
  abbrev pub EachKey : Call K → Type 0
  EachKey (Put low high rows) = P low × P high
  EachKey (Drop key) = P key
  EachKey (Split key lower upper) = P key
  EachKey Advance = Unit {0}
  EachKey (Open session key) = P key
  EachKey (Step session) = Unit {0}
  EachKey (Close session) = Unit {0}
  EachKey Counts = Unit {0}

module _ {K L : Type 0} where
  -- a call with each key k in the form f k
  abbrev pub map_keys : (K → L) → Call K → Call L
  map_keys f (Put low high rows) = Put (f low) (f high) rows
  map_keys f (Drop key) = Drop (f key)
  map_keys f (Split key lower upper) = Split (f key) lower upper
  map_keys f Advance = Advance
  map_keys f (Open session key) = Open session (f key)
  map_keys f (Step session) = Step session
  map_keys f (Close session) = Close session
  map_keys f Counts = Counts

  -- d is c with each key in a form that R gives it
  abbrev pub Mapped : (K → L → Type 0) → Call K → Call L → Type 0
  Mapped R (Put low high rows) d = (low' high' : L) × R low low' × R high high' × (d ≡ Put low' high' rows)
  Mapped R (Drop key) d = (key' : L) × R key key' × (d ≡ Drop key')
  Mapped R (Split key lower upper) d = (key' : L) × R key key' × (d ≡ Split key' lower upper)
  Mapped R Advance d = d ≡ Advance
  Mapped R (Open session key) d = (key' : L) × R key key' × (d ≡ Open session key')
  Mapped R (Step session) d = d ≡ Step session
  Mapped R (Close session) d = d ≡ Close session
  Mapped R Counts d = d ≡ Counts
