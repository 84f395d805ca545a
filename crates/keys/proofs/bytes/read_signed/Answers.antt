use Rattle.std.proofs.Common.{◌≡◌, ap, ◌∙◌, arith, w64, SFits, to_z, of_z, rules}
use Rattle.std.proofs.lemmas.Int.{to_z-of_z}
use Rattle.keys.specs.Bytes.{number, signed_number}
use Rattle.keys.proofs.Bodies.{bytes_again}
use Rattle.keys.proofs.bytes.read_signed.Goals as goal

pub returns : goal.returns
unfolding signed_number
returns c =
    let bs = c.args.from.now in
    let f : SFits w64 c.from_be_bytes.result = search rules in
    let n : c.from_be_bytes.result ≡ to_z w64 (number 8 0 c.args.from.now) =
    c.from_be_bytes.ensures ∙ ap (to_z w64) (omega (arith, c.bytes_at.ensures.number)) in
    let v : to_z w64 (of_z w64 c.from_be_bytes.result) ≡ signed_number c.args.from.now = to_z-of_z w64 _ f ∙ n in
    record { value = v; again = bytes_again _ bs v c.requires (λ i. (c.type_inv.from i).fits) }
