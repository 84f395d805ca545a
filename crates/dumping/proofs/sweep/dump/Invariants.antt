use Rattle.std.proofs.Common.{◌≡◌, ◌+◌, ◌-◌, ◌++◌, length, drop, string_bytes}
use Rattle.dumping.specs.Marks.{none_marked, all_marked}
use Rattle.dumping.specs.Dumps.{cell_lines, counted}
use Rattle.dumping.proofs.sweep.dump.Given as goal

-- what is written and the lines of the cells left are all lines; so of the counts; and as many nodes are counted as were seen
abbrev pub invariant-loop-n : goal.invariant-loop-n
invariant-loop-n g l =
    let cells = g.S.Store.cells l.store in
    (string_bytes l.out ++ cell_lines g.K.Printable.held l.n (drop (l.n - 1) cells) ≡ cell_lines g.K.Printable.held 1 cells)
    × (counted l.totals (drop (l.n - 1) cells) ≡ counted none_marked cells)
    × (all_marked l.totals + 1 ≡ l.n)
    × (l.count ≡ length cells)
