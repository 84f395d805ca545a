use Rattle.std.proofs.Common.{◌/◌, ◌%◌, ◌<◌, get_or, refl, ap, arith}
use Rattle.std.proofs.Output.{writes_in_calls_nil, has_written_append, has_written_of_eq}
use Rattle.std.proofs.lemmas.List.{take_all}
use Rattle.keys.specs.Texts.{hex}
use Rattle.keys.proofs.Hexes.{digit_encoded, hex_more}
use Rattle.keys.proofs.text.write_hex.Goals as goal

pub loop-byte-init : goal.loop-byte-init
loop-byte-init g c plain = record { wrote = writes_in_calls_nil g.W.Write.write_str_gives _; plain = plain }

pub loop-byte-preserved : goal.loop-byte-preserved
loop-byte-preserved g c plain =
    let bs = c.args.bytes.now in
    let i = c.loop-byte.byte-index in
    let byte : get_or c.args.bytes.now c.loop-byte.byte-index 0 < 256 = (c.type_inv.bytes i).fits in
    let so_far = c.loop-byte.invariant plain in
    let high = c.in_ok-write_char.ensures.writes so_far.plain refl in
    let low = c.in_ok-write_char-2.ensures.writes high.plain refl in
    has_written_of_eq g.W.Write.write_str_gives _ _ _ _
    (hex_more bs i _ _ c.loop-byte-test.true
    (digit_encoded _ (get_or bs i 0 / 16) (omega arith) c.digit.ensures)
    (digit_encoded _ (get_or bs i 0 % 16) (omega arith) c.digit-in-loop-byte.ensures))
    (has_written_append g.W.Write.write_str_gives _ _ _ _ _ (has_written_append g.W.Write.write_str_gives _ _ _ _ _ so_far high) low)

pub returns : goal.returns
returns g c plain ok =
    has_written_of_eq g.W.Write.write_str_gives _ _ _ _
    (ap hex (take_all c.loop-byte.byte-index c.args.bytes.now c.loop-byte-test.false)) (c.loop-byte.invariant plain)
