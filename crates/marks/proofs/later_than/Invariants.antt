-- `marks::later_than` meets its contract.
use Rattle.marks.specs.Marks.{LaterThan}
use Rattle.marks.proofs.later_than.Given as goal

abbrev pub invariant-loop-j : goal.invariant-loop-j
invariant-loop-j l = LaterThan l.before l.i l.j l.set
