-- A node as a line of text.
use Rattle.std.specs.Prelude.{ℕ, zero, suc, ◌+◌, ◌/◌, ◌%◌, ◌^◌, cond, List, [], ◌++◌, codes, decimal, ◌==◌}
use Rattle.listing.specs.Lines.{key_shown, note_shown}
use Rattle.dumping.specs.declared.line.Bounds.{Bounds}
use Rattle.dumping.specs.declared.line.Line.{Line}
use Rattle.dumping.specs.Marks.{mark_shown}

-- the sessions whose bit is set, k of them from s on
abbrev pub sessions : ℕ → ℕ → ℕ → List ℕ
sessions waits s zero = []
sessions waits s (suc k) = cond (waits / 2 ^ s % 2 == 1) (codes " " ++ decimal s) [] ++ sessions waits (s + 1) k

abbrev pub waits_shown : ℕ → List ℕ
waits_shown waits = cond (waits == 0) (codes " none") (sessions waits 0 32)

-- the keys, and what is wrong with them
abbrev pub bounds_shown : Bounds → List ℕ
bounds_shown b =
    codes " low " ++ (key_shown b.low ++ (codes " high " ++ (key_shown b.high
    ++ (note_shown (codes "low") b.low ++ note_shown (codes "high") b.high))))

-- number, mark, links and size
abbrev pub place_shown : Line → List ℕ
place_shown l =
    decimal l.number ++ (codes " " ++ (mark_shown l.mark.0 ++ (codes " left " ++ (decimal l.left ++ (codes " right " ++ (decimal l.right
    ++ (codes " size " ++ decimal l.size)))))))

-- then rows, sessions and keys
abbrev pub line_shown : Line → List ℕ
line_shown l = place_shown l ++ (codes " rows " ++ (decimal l.rows ++ (codes " waits" ++ (waits_shown l.waits.0 ++ bounds_shown l.keys))))
