-- `circles::circular` meets its contract.
use mathlib.Core.Path.{◌≡◌}
use lib.Count.{ones}
use Rattle.tables.specs.Tables.{count_of}
use Rattle.circles.proofs.Taking.{Taken}
use Rattle.circles.proofs.circular.Given as goal

abbrev pub invariant-loop-left : goal.invariant-loop-left
invariant-loop-left l = (l.count ≡ count_of l.jobs) × Taken l.jobs l.left

abbrev pub decreases-loop-left : goal.decreases-loop-left
decreases-loop-left l = ones l.left
