use Rattle.std.proofs.Common.{length, ◌-◌, ap, ◌∙◌}
use Rattle.std.proofs.lemmas.Option.{unwrap_or-slice_get}
use Rattle.std.specs.Option.{unwrap_or}
use Rattle.stacks.specs.Held.{held}
use Rattle.search.proofs.free.Found.end.Goals as goal

pub returns : goal.returns
returns c =
    let ns = held c.args.self.now.numbers in
    c.unwrap_or.ensures ∙ ap (λ o. unwrap_or o c.args.cursor) c.last.ensures ∙ unwrap_or-slice_get ns (length ns - 1) c.args.cursor
