use Rattle.std.proofs.Common.{◌≡◌, take, drop, ap, ◌∙◌, rules}
use Rattle.keys.specs.Bytes.{number}
use Rattle.keys.proofs.Numbers.{number_taken}
use Rattle.keys.proofs.bytes.bytes_at.Goals as goal

pub returns-clause-number : goal.returns-clause-number
returns-clause-number g c =
    let e : c.unwrap.result ≡ take g.row.N (drop c.args.at c.args.from.now) = search rules in
    ap (number g.row.N 0) e ∙ number_taken g.row.N c.args.at c.args.from.now c.requires
