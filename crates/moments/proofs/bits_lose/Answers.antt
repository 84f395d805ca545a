use Rattle.moments.proofs.Bits.{bits_lose}
use Rattle.moments.proofs.bits_lose.Goals as goal

pub returns : goal.returns
returns c = bits_lose
