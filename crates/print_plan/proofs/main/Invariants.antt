-- what is read so far stands within the buffer
use Rattle.std.proofs.Common.{◌-◌, ◌≤◌}
use Rattle.print_plan.proofs.main.Given as goal

abbrev pub invariant-loop-count : goal.invariant-loop-count
invariant-loop-count l = l.count ≤ 571

abbrev pub decreases-loop-count : goal.decreases-loop-count
decreases-loop-count l = 571 - l.count
