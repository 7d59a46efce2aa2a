-- `marks::followed_by` meets its contract.
use Rattle.marks.proofs.Steps.{Within}
use Rattle.marks.proofs.followed_by.Given as goal

abbrev pub invariant-loop-k : goal.invariant-loop-k
invariant-loop-k l = Within l.jobs l.j l.k l.set
