-- `weights::most_of` meets its contract.
use mathlib.Core.Path.{◌≡◌}
use Prim.Native.Nat.{◌-◌, ◌≤◌}
use Rattle.tables.specs.Tables.{count_of, modules_of}
use Rattle.weights.specs.Weights.{MostOf}
use Rattle.weights.proofs.most_of.Given as goal

abbrev pub invariant-loop-k : goal.invariant-loop-k
invariant-loop-k l =
    ((l.count ≡ count_of l.jobs) × (l.modules ≡ modules_of l.jobs)) × ((l.k ≤ l.count) × MostOf l.jobs l.k l.q l.table.at)
