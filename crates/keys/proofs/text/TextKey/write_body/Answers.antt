use Rattle.std.proofs.Common.{◌∷◌, ap, ◌∙◌}
use Rattle.keys.proofs.Headed.{written_behind}
use Rattle.keys.proofs.text.TextKey.write_body.Goals as goal

pub returns-clause-written : goal.returns-clause-written
returns-clause-written c =
    let k = c.args.self.now in
    written_behind 16 c.args.out.now c.copy_from_slice.new.self k.len c.requires ∙ ap (λ x. k.len ∷ x) c.copy_from_slice.ensures.after
