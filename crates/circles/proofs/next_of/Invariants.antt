-- `circles::next_of` meets its contract.
use mathlib.Core.Path.{◌≡◌}
use Rattle.tables.specs.Tables.{count_of}
use Rattle.circles.proofs.Taking.{Seeking}
use Rattle.circles.proofs.next_of.Given as goal

abbrev pub invariant-loop-j : goal.invariant-loop-j
invariant-loop-j l = (l.count ≡ count_of l.jobs) × Seeking l.jobs l.left l.j-iterator.left
