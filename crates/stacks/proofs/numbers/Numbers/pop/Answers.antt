-- With the top one set to 0, all from there on are 0. Said for any height from there on: a pop that kept its height would break what
-- it ensures, and not this.
use Rattle.std.proofs.Common.{rules, arith, ◌<◌}
use Rattle.stacks.proofs.Blanks.{blank_top}
use Rattle.stacks.proofs.numbers.Numbers.pop.Goals as goal

pub invariant_of-self : goal.invariant_of-self
invariant_of-self g c =
    let some : 0 < c.args.self.now.height = search rules in
    record { padded = blank_top _ _ _ _ some (omega arith) (omega arith) c.args.self.now.padded }
