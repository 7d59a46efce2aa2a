-- `edges::sheets::count_fronts` ends: no more fronts are counted than were read.
use Rattle.std.proofs.Common.{length, ◌-◌, ◌≤◌}
use Rattle.edges.proofs.sheets.count_fronts.Given as goal

abbrev pub invariant-loop-count : goal.invariant-loop-count
invariant-loop-count l = (l.count ≤ length l.s) × (l.found ≤ l.count)

abbrev pub decreases-loop-count : goal.decreases-loop-count
decreases-loop-count l = length l.s - l.count
