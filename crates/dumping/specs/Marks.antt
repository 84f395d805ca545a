-- Marks by name, and how many nodes have each.
use Rattle.std.specs.Prelude.{ℕ, ◌+◌, cond, List, ◌++◌, codes, decimal, ◌==◌}
use Rattle.dumping.specs.declared.totals.Totals.{Totals}

-- by the mark: free, live (in the tree), waiting, seat, or none of the four
abbrev pub by_mark : {A : Type 0} → ℕ → A → A → A → A → A → A
by_mark mark free live waiting seat unknown =
    cond (mark == 0) free (cond (mark == 1) live (cond (mark == 2) waiting (cond (mark == 3) seat unknown)))

abbrev pub mark_shown : ℕ → List ℕ
mark_shown mark = by_mark mark (codes "free") (codes "live") (codes "waiting") (codes "seat") (codes "unknown-" ++ decimal mark)

abbrev pub totals : ℕ → ℕ → ℕ → ℕ → ℕ → Totals
totals l w f s u = record { live = l; waiting = w; free = f; seats = s; unknown = u }

abbrev pub none_marked : Totals
none_marked = totals 0 0 0 0 0

-- one node more with this mark
abbrev pub marked : ℕ → Totals → Totals
marked mark t =
    by_mark mark
    (totals t.live t.waiting (t.free + 1) t.seats t.unknown)
    (totals (t.live + 1) t.waiting t.free t.seats t.unknown)
    (totals t.live (t.waiting + 1) t.free t.seats t.unknown)
    (totals t.live t.waiting t.free (t.seats + 1) t.unknown)
    (totals t.live t.waiting t.free t.seats (t.unknown + 1))

abbrev pub all_marked : Totals → ℕ
all_marked t = t.live + t.waiting + t.free + t.seats + t.unknown

abbrev pub totals_shown : Totals → List ℕ
totals_shown t =
    decimal t.live ++ (codes " live, " ++ (decimal t.waiting ++ (codes " waiting, " ++ (decimal t.free ++ (codes " free, "
    ++ (decimal t.seats ++ (codes " seat, " ++ (decimal t.unknown ++ codes " unknown"))))))))
