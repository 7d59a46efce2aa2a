-- `starting::first_alone` meets its contract.
use Rattle.bits.proofs.Walks.{Walk}
use Rattle.starting.proofs.first_alone.Given as goal

abbrev pub invariant-loop-i : goal.invariant-loop-i
invariant-loop-i l = Walk l.set l.count l.i-iterator.left
