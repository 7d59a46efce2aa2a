-- `desk::Desk::reserved_in_all` meets its contract: the total is that of the places passed, each within the limit.
use mathlib.Core.Path.{◌≡◌}
use Rattle.counting.specs.Counting.{sum}
use Rattle.desk.specs.Desk.{reserved}
use Rattle.desk.proofs.Desk.reserved_in_all.Given as goal

abbrev pub invariant-loop-i : goal.invariant-loop-i
invariant-loop-i l = l.total ≡ sum l.i (reserved l.self)
