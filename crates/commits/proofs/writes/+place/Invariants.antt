use Rattle.drafts.specs.Drafts.{height}
use Rattle.commits.proofs.writes.+place.Given as goal

abbrev pub decreases-place : goal.decreases-place
decreases-place g l = height l.link
