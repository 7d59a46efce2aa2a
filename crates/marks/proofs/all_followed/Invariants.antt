-- `marks::all_followed` meets its contract.
use Rattle.marks.specs.Marks.{FollowedBy}
use Rattle.marks.proofs.Steps.{Filled}
use Rattle.marks.proofs.all_followed.Given as goal

abbrev pub invariant-loop-j : goal.invariant-loop-j
invariant-loop-j l = Filled (FollowedBy l.jobs) l.j l.of
