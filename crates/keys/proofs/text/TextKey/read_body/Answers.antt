use Rattle.std.proofs.Common.{◌∷◌, get_or, ap, ◌∙◌}
use Rattle.keys.specs.declared.text.Text.{Text}
use Rattle.keys.proofs.Headed.{read_behind, joined_again}
use Rattle.keys.proofs.text.TextKey.read_body.Goals as goal

pub returns : goal.returns
returns c =
    let bs = c.args.from.now in
    let e = c.bytes_at.ensures.value ∙ read_behind 16 bs c.requires in
    record {
      value = ap (λ x. let t : Text = record { len = get_or bs 0 0; bytes = x } in t) e;
      again = ap (λ x. get_or bs 0 0 ∷ x) e ∙ joined_again 16 bs c.requires;
    }
