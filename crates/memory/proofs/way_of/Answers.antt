-- `memory::way_of` meets its contract.
use native.Mathlib.Omega.{arith}
use Rattle.memory.proofs.way_of.Goals as goal

pub loop-i-preserved : goal.loop-i-preserved
loop-i-preserved c = c.mixed-h.ensures
