-- `values::serving::serve` meets its contract.
use mathlib.Core.Path.{◌≡◌}
use Prim.Native.Nat.{◌-◌, ◌≤◌}
use Rattle.tables.specs.Tables.{count_of}
use Rattle.values.specs.Values.{Reached}
use Rattle.values.proofs.serving.serve.Given as goal

abbrev pub invariant-loop-k : goal.invariant-loop-k
invariant-loop-k l = (l.count ≡ count_of l.jobs) × ((l.k ≤ l.count) × Reached l.jobs l.value l.k l.step l.reach.at)
