use Rattle.std.proofs.Common.{arith}
use Rattle.trees.proofs.Heights.{height_under, path_under}
use Rattle.trees.proofs.balanced_is_low.Goals as goal

pub returns : goal.returns
returns g c t balanced few = (height_under _ t balanced (omega arith), λ turn. path_under _ turn t (height_under _ t balanced (omega arith)))
