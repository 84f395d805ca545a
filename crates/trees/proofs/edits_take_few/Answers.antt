use Rattle.trees.specs.Regions.{ranges}
use Rattle.trees.proofs.News.{few_new}
use Rattle.trees.proofs.edits_take_few.Goals as goal

pub returns : goal.returns
returns g c low high = few_new (ranges g.K.Ordered.fault g.K.Ordered.order low high)
