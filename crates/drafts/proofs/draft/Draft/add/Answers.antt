use Rattle.std.proofs.Common.{refl}
use Rattle.drafts.proofs.Arena.{grew_added, stands_added}
use Rattle.drafts.proofs.draft.Draft.add.Goals as goal

pub returns : goal.returns
returns g c =
    let s = stands_added c.args.self.now (record { made = c.push.new.self; gone = c.args.self.now.gone }) c.args.b c.push.ensures refl c.requires.left c.requires.right in
    record {
      grew = grew_added c.args.self.now _ c.args.b c.push.ensures refl;
      stands = rw c.len-place.ensures.value s;
      gone = refl;
    }
