use Rattle.journal.proofs.Entries.{written_is_read}
use Rattle.journal.proofs.laws.written_is_read.Goals as goal

pub returns : goal.returns
returns c = written_is_read
