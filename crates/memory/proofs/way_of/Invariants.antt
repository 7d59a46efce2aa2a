-- `memory::way_of` meets its contract.
use Prim.Native.Nat.{◌-◌, ◌≤◌, ◌<◌}
use Rattle.memory.proofs.way_of.Given as goal

abbrev pub invariant-loop-i : goal.invariant-loop-i
invariant-loop-i l = l.h < 65536
