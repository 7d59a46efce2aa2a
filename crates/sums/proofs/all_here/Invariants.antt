-- `sums::all_here` meets its contract.
use mathlib.Core.Path.{◌≡◌}
use Prim.Native.Nat.{◌-◌, ◌≤◌}
use Rattle.tables.specs.Tables.{count_of}
use Rattle.sums.specs.Sums.{AllHere}
use Rattle.sums.proofs.all_here.Given as goal

abbrev pub invariant-loop-i : goal.invariant-loop-i
invariant-loop-i l = (l.count ≡ count_of l.jobs) × ((l.i ≤ l.count) × AllHere l.jobs l.i)
