-- `bounds::some_too_long` meets its contract.
use Rattle.bits.proofs.Walks.{Walk}
use Rattle.bounds.proofs.some_too_long.Given as goal

abbrev pub invariant-loop-j : goal.invariant-loop-j
invariant-loop-j l = Walk l.set l.count l.j-iterator.left
