-- the code is the definition
use Rattle.std.proofs.Common.{refl}
use Rattle.bits.specs.Bits.{bit}
use Rattle.bits.proofs.U32Set.has.Goals as goal

pub returns : goal.returns
unfolding bit
returns c = refl
