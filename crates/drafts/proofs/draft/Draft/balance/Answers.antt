use Rattle.std.proofs.Common.{Some, None, arith}
use Rattle.drafts.proofs.Turning.{makes_wide, makes_joined, balance_by}
use Rattle.drafts.proofs.draft.Draft.balance.Goals as goal

pub returns-in-None : goal.returns-in-None
returns-in-None g c =
    balance_by _ _ c.args.self.now _ c.args.left.now c.args.right.now c.weight.result c.weight-2.result None _ c.weight.ensures.value c.weight-2.ensures.value c.in-None.ensures
    (makes_wide 3 2 (omega arith) (omega arith) (makes_joined c.join.ensures))

pub returns-in-Some : goal.returns-in-Some
returns-in-Some g c =
    balance_by _ _ c.args.self.now _ c.args.left.now c.args.right.now c.weight.result c.weight-2.result (Some c.in-Some.lean) _ c.weight.ensures.value c.weight-2.ensures.value c.in-Some.ensures
    c.rotate.ensures
