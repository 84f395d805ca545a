use Rattle.std.proofs.Common.{sym, refl, subst, rules}
use Rattle.drafts.specs.Drafts.{Fine}
use Rattle.drafts.proofs.Seeing.{joins_added, good_fine}
use Rattle.drafts.proofs.draft.Draft.join.Goals as goal

pub add-requires : goal.add-requires
add-requires g c =
    let d = c.args.self.now in
    let left : Fine d c.link.result = subst (λ l. Fine d l) (sym c.link.ensures) (good_fine d c.args.left.now c.requires.left) in
    let right : Fine d c.link-2.result = subst (λ l. Fine d l) (sym c.link-2.ensures) (good_fine d c.args.right.now c.requires.right) in
    search rules

pub returns : goal.returns
returns g c =
    joins_added c.args.self.now c.add.new.self c.args.region c.args.left.now c.args.right.now _ c.add.result
    c.weight.result c.weight-2.result c.size_over.ensures c.weight.ensures.value c.weight-2.ensures.value refl c.link.ensures c.link-2.ensures
    c.requires.left c.requires.right c.add.ensures.grew c.add.ensures.stands c.add.ensures.gone
