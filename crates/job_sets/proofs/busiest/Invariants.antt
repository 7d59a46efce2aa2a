-- `job_sets::busiest` meets its contract.
use Rattle.job_sets.proofs.Choosing.{Choosing}
use Rattle.job_sets.proofs.busiest.Given as goal

abbrev pub invariant-loop-j : goal.invariant-loop-j
invariant-loop-j l = Choosing l.left l.best l.j-iterator.left
