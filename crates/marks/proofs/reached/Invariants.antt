-- `marks::reached` meets its contract.
use Rattle.marks.specs.Marks.{Reached}
use Rattle.marks.proofs.reached.Given as goal

abbrev pub invariant-loop-a : goal.invariant-loop-a
invariant-loop-a l = Reached l.jobs l.set l.a l.all
