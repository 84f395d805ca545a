use Rattle.std.proofs.Common.{◌≡◌, ◌+◌, ◌≤◌, ◌++◌, length, string_bytes}
use Rattle.std.specs.Iterator.Adapters.{enumerate_source, enumerate_count}
use Rattle.journal.specs.Readers.{log_of, keys_of, left}
use Rattle.journal.specs.Records.{answers_left}
use Rattle.listing.specs.Tallies.{total, none_counted}
use Rattle.listing.specs.Listings.{all_lines}
use Rattle.listing.proofs.Turns.{lines_of}
use Rattle.listing.proofs.lines.list_records.Given as goal

-- the reader stands in the same log; the counts are of all records so far, which with what is left are no more than the bytes and a fault;
-- what is written and what is left to write are the whole
abbrev pub invariant-loop-before : goal.invariant-loop-before
invariant-loop-before l =
    let now = enumerate_source l.before-iterator in
    let n = enumerate_count l.before-iterator in
    (goal.iterator-loop-before).can_next l.before-iterator
    × (goal.iterator-loop-before).is_finite l.before-iterator
    × (log_of now.reader ≡ log_of l.fn.reader)
    × (keys_of now.reader ≡ keys_of l.fn.reader)
    × (n + length (answers_left now) ≤ length (log_of l.fn.reader) + 1)
    × (total l.tally ≡ n)
    × (string_bytes l.out ++ lines_of (keys_of l.fn.reader) (log_of l.fn.reader) n l.tally (answers_left now)
    ≡ string_bytes l.initial.out ++ all_lines (keys_of l.fn.reader) (log_of l.fn.reader) 0 none_counted (left l.fn.reader))
