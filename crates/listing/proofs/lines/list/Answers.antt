use Rattle.journal.specs.Readers.{keys_of, left}
use Rattle.journal.specs.Readings.{records_left}
use Rattle.std.proofs.Common.{length, ◌≤◌, sym, subst}
use Rattle.listing.proofs.Turns.{few_records}
use Rattle.listing.proofs.lines.list.Goals as goal

pub list_records-requires : goal.list_records-requires
list_records-requires c =
    let told = c.in-Ok.ensures in
    subst (λ log. records_left (left c.in-Ok.reader) ≤ length log) (sym told.same) (few_records c.args.log.now (keys_of c.in-Ok.reader) (left c.in-Ok.reader) told.answer)
