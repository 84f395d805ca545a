use Rattle.std.proofs.Common.{◌≡◌, ◌^◌, ◌<◌, length, arith, rules}
use Rattle.packed.proofs.Nodes.{decoded}
use Rattle.packed.proofs.layout.decode.Goals as goal

pub returns-clause-again : goal.returns-clause-again
returns-clause-again g c =
    let k = g.K.Key in
    let w = c.width-width.result in
    let l : length c.args.from.now < 2 ^ 64 = search rules in
    let e : w ≡ k.wide = omega (arith, c.width-width.ensures, c.requires, l) in
    decoded k w c.args.from.now
    c.from_be_bytes.result c.from_be_bytes-2.result c.from_be_bytes-3.result c.from_be_bytes-4.result c.from_be_bytes-5.result
    c.read_body-low.result c.read_body-high.result e c.requires (λ i. (c.type_inv.from i).fits)
    (omega (arith, c.from_be_bytes.ensures, c.bytes_at.ensures.number))
    (omega (arith, c.from_be_bytes-2.ensures, c.bytes_at-2.ensures.number))
    (omega (arith, c.from_be_bytes-3.ensures, c.bytes_at-3.ensures.number))
    (omega (arith, c.from_be_bytes-4.ensures, c.bytes_at-4.ensures.number))
    (omega (arith, c.from_be_bytes-5.ensures, c.bytes_at-5.ensures.number))
    c.read_body-low.ensures.value c.read_body-high.ensures.value c.read_body-low.ensures.again c.read_body-high.ensures.again
