-- `edges::slacks::chain` ends: each job is put behind all before it.
use Rattle.std.proofs.Common.{◌-◌, ◌≤◌}
use Rattle.edges.proofs.slacks.chain.Given as goal

abbrev pub invariant-loop-j : goal.invariant-loop-j
invariant-loop-j l = l.j ≤ 20

abbrev pub decreases-loop-j : goal.decreases-loop-j
decreases-loop-j l = 20 - l.j
