-- Each record that is read leaves one fewer.
use Rattle.std.proofs.Common.{◌≡◌, ◌+◌, ◌<◌, ◌≤◌, length, get_or, drop, Some, ap, arith, rules}
use Rattle.journal.specs.Readings.{records_left}
use Rattle.journal.specs.RecordKinds.{record_kind, body_width}
use Rattle.journal.proofs.Steps.{from_place, at_record}
use Rattle.journal.proofs.reader.Reader.next.Goals as goal

pub returns-clause-fewer : goal.returns-clause-fewer
returns-clause-fewer c =
    let r = c.args.self.now in
    let there : r.at < length r.log.now = search rules in
    let known : record_kind (get_or r.log.now r.at 0) ≡ Some c.in_ok-kind.kind = search rules in
    let w = c.body_width-width.ensures in
    let long : body_width r.keys c.in_ok-kind.kind ≤ length (drop (r.at + 1) r.log.now) =
    omega (arith, ap length (from_place (r.at + 1) r.log.now), c.if-width-body.false) in
    let e = ap records_left (at_record r.keys r.at r.log.now c.in_ok-kind.kind there known long) in
    search rules
