-- `branching::left_behind` meets its contract.
use Rattle.branching.proofs.Blocks.{Awaiting}
use Rattle.branching.proofs.left_behind.Given as goal

abbrev pub invariant-loop-x : goal.invariant-loop-x
invariant-loop-x l = Awaiting l.jobs l.part.unplaced l.awaited l.arrived l.x-iterator.left
