use Rattle.journal.proofs.Spelled.{read_was_written}
use Rattle.journal.proofs.laws.read_was_written.Goals as goal

pub returns : goal.returns
returns c = read_was_written
