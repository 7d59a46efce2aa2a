-- `relations::later_jobs` meets its contract.
use Prim.Native.Nat.{◌-◌, ◌≤◌}
use Rattle.relations.proofs.Waiting.{LatersTo}
use Rattle.relations.proofs.later_jobs.Given as goal

abbrev pub invariant-loop-i : goal.invariant-loop-i
invariant-loop-i l = LatersTo l.jobs l.i l.of
