use Rattle.std.proofs.Common.{◌∷◌, ap, ◌∙◌, w64, SFits, rules}
use Rattle.std.proofs.lemmas.Int.{to_z-of_z}
use Rattle.keys.specs.Bytes.{signed_bytes}
use Rattle.keys.proofs.Headed.{written_behind}
use Rattle.keys.proofs.decimal.DecimalKey.write_body.Goals as goal

pub returns-clause-written : goal.returns-clause-written
returns-clause-written c =
    let k = c.args.self.now in
    let f : SFits w64 c.args.self.now.coefficient = search rules in
    let e = c.write_signed.ensures.written ∙ ap signed_bytes (to_z-of_z w64 k.coefficient f) in
    written_behind 8 c.args.out.now c.write_signed.new.out k.scale c.requires ∙ ap (λ x. k.scale ∷ x) e
