-- `edges::slacks::late_jobs` ends, and its count is at most 20.
use Rattle.std.proofs.Common.{◌-◌, ◌≤◌}
use Rattle.edges.proofs.slacks.late_jobs.Given as goal

abbrev pub invariant-loop-j : goal.invariant-loop-j
invariant-loop-j l = (l.n ≤ l.j) × (l.j ≤ 20)

abbrev pub decreases-loop-j : goal.decreases-loop-j
decreases-loop-j l = 20 - l.j
