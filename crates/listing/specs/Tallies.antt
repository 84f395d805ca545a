-- How many records of each kind a log has.
use Rattle.std.specs.Prelude.{ℕ, ◌+◌, List, ◌++◌, codes, decimal}
use Rattle.requests.specs.declared.call.Call.{Call}
use Rattle.requests.specs.declared.call.Call.TheVariants.{Put, Drop, Split, Advance, Open, Step, Close, Counts}
use Rattle.listing.specs.declared.tally.Tally.{Tally}

abbrev pub tally : ℕ → ℕ → ℕ → ℕ → ℕ → ℕ → ℕ → ℕ → Tally
tally p d s a o t c n = record { puts = p; drops = d; splits = s; advances = a; opens = o; steps = t; closes = c; counts = n }

abbrev pub none_counted : Tally
none_counted = tally 0 0 0 0 0 0 0 0

-- one record more of its kind
abbrev pub counted : Call ℕ → Tally → Tally
counted (Put low high rows) t = tally (t.puts + 1) t.drops t.splits t.advances t.opens t.steps t.closes t.counts
counted (Drop place) t = tally t.puts (t.drops + 1) t.splits t.advances t.opens t.steps t.closes t.counts
counted (Split place lower upper) t = tally t.puts t.drops (t.splits + 1) t.advances t.opens t.steps t.closes t.counts
counted Advance t = tally t.puts t.drops t.splits (t.advances + 1) t.opens t.steps t.closes t.counts
counted (Open session place) t = tally t.puts t.drops t.splits t.advances (t.opens + 1) t.steps t.closes t.counts
counted (Step session) t = tally t.puts t.drops t.splits t.advances t.opens (t.steps + 1) t.closes t.counts
counted (Close session) t = tally t.puts t.drops t.splits t.advances t.opens t.steps (t.closes + 1) t.counts
counted Counts t = tally t.puts t.drops t.splits t.advances t.opens t.steps t.closes (t.counts + 1)

-- all records together
abbrev pub total : Tally → ℕ
total t = t.puts + t.drops + t.splits + t.advances + t.opens + t.steps + t.closes + t.counts

-- what is printed of the counts: of what changes the tree, then of what looks at it
abbrev pub edits_shown : Tally → List ℕ
edits_shown t =
    decimal t.puts ++ (codes " put, " ++ (decimal t.drops ++ (codes " drop, " ++ (decimal t.splits ++ (codes " split, "
    ++ (decimal t.advances ++ codes " advance, "))))))

abbrev pub lookups_shown : Tally → List ℕ
lookups_shown t =
    decimal t.opens ++ (codes " open, " ++ (decimal t.steps ++ (codes " step, " ++ (decimal t.closes ++ (codes " close, "
    ++ (decimal t.counts ++ codes " counts"))))))

abbrev pub tally_shown : Tally → List ℕ
tally_shown t = edits_shown t ++ lookups_shown t
