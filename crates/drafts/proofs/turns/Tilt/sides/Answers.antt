use Rattle.std.proofs.Common.{◌∙◌, rules}
use Rattle.drafts.proofs.Turning.{link_fine, sides_seen}
use Rattle.drafts.proofs.turns.Tilt.sides.Goals as goal

pub see_both-requires : goal.see_both-requires
see_both-requires g c =
    let left = link_fine c.args.draft.now c.other.result c.args.top.now c.link_on-near.result c.link_on-near.ensures c.requires.left c.requires.right in
    let right = link_fine c.args.draft.now c.args.self.now.lean c.args.top.now c.link_on-far.result c.link_on-far.ensures c.requires.left c.requires.right in
    search rules

pub returns : goal.returns
returns g c =
    let seen = sides_seen (g.S.Store.cells c.args.store.now) c.args.draft.now c.args.self.now.lean c.other.result c.args.top.now c.link_on-near.result c.link_on-far.result
    c.other.ensures c.link_on-near.ensures c.link_on-far.ensures in
    record { value = c.see_both.ensures.value ∙ seen; good = c.see_both.ensures.good }
