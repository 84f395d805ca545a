use Rattle.std.proofs.Common.{◌≡◌, ◌+◌, ◌*◌, ◌^◌, ◌<◌, length, sym, refl, ◌∙◌, arith, rules}
use Rattle.packed.specs.Layout.{head_bytes}
use Rattle.packed.proofs.Nodes.{three_writes, node_back, length_node}
use Rattle.packed.proofs.layout.encode.Goals as goal

pub returns : goal.returns
returns g c =
    let k = g.K.Key in
    let v = c.args.node.now in
    let w = c.width-width.result in
    let sl = c.write_body.ensures.sized in
    let sh = c.write_body-2.ensures.sized in
    let l : length c.args.out.now < 2 ^ 64 = search rules in
    let e : w ≡ k.wide = omega (arith, c.width-width.ensures, c.requires, l) in
    let lout : length c.args.out.now ≡ 19 + 2 * w = rw e c.requires in
    let llo : length (k.body v.low) ≡ w = sl ∙ sym e in
    let lhi : length (k.body v.high) ≡ w = sh ∙ sym e in
    let f = c.head-bytes.ensures.fits in
    record {
      written = rw (c.write_body.ensures.written, c.write_body-2.ensures.written, c.copy_from_slice.ensures.after, c.head-bytes.ensures.value)
          (three_writes (head_bytes v.mark v.left v.right v.size v.rows v.waits) (k.body v.low) (k.body v.high) c.args.out.now w lout refl llo lhi);
      sized = length_node k v sl sh;
      back = node_back k v f.0 f.1 f.2 f.3 f.4 sl sh c.write_body.ensures.back c.write_body-2.ensures.back;
    }
