-- `occupancy::work_of` meets its contract.
use mathlib.Core.Path.{◌≡◌}
use Prim.Native.Nat.{◌*◌, ◌≤◌}
use Rattle.counting.specs.Counting.{sum}
use Rattle.figures.specs.Figures.{most_modules, most_minutes}
use Rattle.tables.specs.Tables.{need_at, minutes_at, count_of}
use Rattle.occupancy.proofs.work_of.Given as goal

abbrev pub invariant-loop-i : goal.invariant-loop-i
invariant-loop-i l = (l.count ≡ count_of l.jobs) × ((l.total ≡ sum l.i (λ k. need_at l.jobs k * minutes_at l.jobs k)) × (l.total ≤ most_modules * most_minutes * l.i))
