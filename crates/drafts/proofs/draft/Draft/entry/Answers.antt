use Rattle.std.proofs.Common.{◌<◌, length, refl, ap, arith}
use Rattle.std.proofs.lemmas.Option.{slice_get_read}
use Rattle.drafts.proofs.Arena.{fine_within, reads_at}
use Rattle.drafts.proofs.draft.Draft.entry.Goals as goal

pub returns : goal.returns
returns g c =
    let there : c.args.i < length c.as_slice.result.now = omega (arith, fine_within _ _ c.args.i c.requires, ap length c.as_slice.ensures.items) in
    let q = reads_at c.args.self.now c.args.i c.index-as_slice-i.result c.requires
    (rw (← c.as_slice.ensures.items) (slice_get_read _ _ c.args.i _ refl there c.index-as_slice-i.is)) in
    record { stands = q.stands; lower = q.lower }
