-- One more number leaves all above it 0.
use Rattle.std.proofs.Common.{rules, ◌<◌}
use Rattle.stacks.proofs.Blanks.{one_more}
use Rattle.stacks.proofs.numbers.Numbers.push.Goals as goal

pub invariant_of-self : goal.invariant_of-self
invariant_of-self g c =
    let room : c.args.self.now.height < g.row.N = search rules in
    record { padded = one_more _ _ _ _ room c.args.self.now.padded }
