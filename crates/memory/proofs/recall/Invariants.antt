-- `memory::recall` meets its contract.
use Prim.Native.Nat.{◌<◌}
use Rattle.memory.proofs.recall.Given as goal

abbrev pub invariant-loop-ways : goal.invariant-loop-ways
invariant-loop-ways l = l.ways < 65536

abbrev pub decreases-loop-ways : goal.decreases-loop-ways
decreases-loop-ways l = l.ways
