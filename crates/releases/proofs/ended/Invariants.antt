-- `releases::ended` meets its contract.
use Rattle.releases.proofs.Laws.{Ending}
use Rattle.releases.proofs.ended.Given as goal

abbrev pub invariant-loop-i : goal.invariant-loop-i
invariant-loop-i l = Ending l.jobs l.release l.set l.latest l.i-iterator.left
