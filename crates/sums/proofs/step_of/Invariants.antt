-- `sums::step_of` meets its contract.
use mathlib.Core.Path.{◌≡◌}
use Prim.Native.Nat.{◌-◌, ◌≤◌}
use Rattle.tables.specs.Tables.{count_of}
use Rattle.sums.specs.Sums.{Step}
use Rattle.sums.proofs.step_of.Given as goal

abbrev pub invariant-loop-i : goal.invariant-loop-i
invariant-loop-i l = (l.count ≡ count_of l.jobs) × ((l.i ≤ l.count) × Step l.jobs l.i l.step)
