use Rattle.std.proofs.Common.{sym, ◌∙◌, rules}
use Rattle.keys.specs.Texts.{text_bytes}
use Rattle.keys.specs.Lexes.{order_is}
use Rattle.keys.proofs.text.TextOrdered.compare.Goals as goal

pub returns : goal.returns
returns c =
    let e = c.cmp.ensures ∙ sym (order_is (text_bytes c.args.self.now) (text_bytes c.args.other.now)) in search rules
