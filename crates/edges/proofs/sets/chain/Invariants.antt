-- `edges::sets::chain` ends: each job but the first is put behind the one before it.
use Rattle.std.proofs.Common.{◌-◌, ◌≤◌}
use Rattle.edges.proofs.sets.chain.Given as goal

abbrev pub invariant-loop-j : goal.invariant-loop-j
invariant-loop-j l = (1 ≤ l.j) × (l.j ≤ 20)

abbrev pub decreases-loop-j : goal.decreases-loop-j
decreases-loop-j l = 20 - l.j
