use Rattle.std.proofs.Common.{rules}
use Rattle.keys.specs.Bytes.{signed_bytes}
use Rattle.keys.proofs.Bodies.{number_back}
use Rattle.keys.proofs.bytes.write_signed.Goals as goal

pub returns : goal.returns
unfolding signed_bytes
returns c = record { written = search rules; back = number_back c.args.number c.ranges.number }
