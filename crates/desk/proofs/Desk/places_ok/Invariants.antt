-- `desk::Desk::places_ok` meets its contract: each place that was passed is right.
use mathlib.Core.Path.{◌≡◌}
use mathlib.Core.Bool.{true}
use Rattle.counting.specs.Counting.{every}
use Rattle.desk.specs.Checks.{place_ok_at}
use Rattle.desk.proofs.Desk.places_ok.Given as goal

abbrev pub invariant-loop-i : goal.invariant-loop-i
invariant-loop-i l = every l.i (place_ok_at l.self) ≡ true
