-- What is printed of a store.
use Rattle.std.specs.Prelude.{ℕ, ◌+◌, cond, List, [], ◌∷◌, ◌++◌, length, codes, decimal, ◌==◌}
use Rattle.listing.specs.declared.call.AnyKey.{AnyKey}
use Rattle.listing.specs.Listings.{newline}
use Rattle.store.specs.declared.node.Node.{Node}
use Rattle.store.specs.Cells.{Cell, shut, readable, mark_of}
use Rattle.dumping.specs.declared.line.Line.{Line}
use Rattle.dumping.specs.declared.totals.Totals.{Totals}
use Rattle.dumping.specs.Marks.{mark_shown, none_marked, marked, totals_shown}
use Rattle.dumping.specs.Nodes.{line_shown}

-- how many cells have each mark, added to these counts
abbrev pub counted : {K : Type 0} → Totals → List (Cell K) → Totals
counted t [] = t
counted t (c ∷ cs) = counted (marked (mark_of c) t) cs

abbrev pub totals_line : ℕ → Totals → List ℕ
totals_line n t = decimal n ++ (codes " nodes: " ++ (totals_shown t ++ newline))

-- `held` makes a key of the store's kind one of any kind
module _ {K : Type 0} (held : K → AnyKey) where
  -- node v under its number
  abbrev pub line_of : ℕ → Node K → Line
  line_of n v = record {
    number = n;
    mark = record { 0 = v.mark };
    left = v.left;
    right = v.right;
    size = v.size;
    rows = v.rows;
    waits = record { 0 = v.waits };
    keys = record { low = held v.low; high = held v.high };
  }

  -- a line for a node that is not free; of a closed one only the mark can be told
  abbrev pub cell_line : ℕ → Cell K → List ℕ
  cell_line n (shut m) = cond (m == 0) [] (decimal n ++ (codes " " ++ (mark_shown m ++ (codes " closed" ++ newline))))
  cell_line n (readable v) = cond (v.mark == 0) [] (line_shown (line_of n v) ++ newline)

  -- the lines of these cells, the first of which is node n
  abbrev pub cell_lines : ℕ → List (Cell K) → List ℕ
  cell_lines n [] = []
  cell_lines n (c ∷ cs) = cell_line n c ++ cell_lines (n + 1) cs

  abbrev pub dumped : List (Cell K) → List ℕ
  dumped cs = cell_lines 1 cs ++ totals_line (length cs) (counted none_marked cs)
