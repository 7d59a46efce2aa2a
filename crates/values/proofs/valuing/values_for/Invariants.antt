-- `values::valuing::values_for` meets its contract.
use mathlib.Core.Path.{◌≡◌}
use Prim.Native.Nat.{◌-◌, ◌≤◌}
use Rattle.tables.specs.Tables.{count_of}
use Rattle.values.specs.Values.{most_total, most_rounds, Valued}
use Rattle.values.proofs.valuing.values_for.Given as goal

abbrev pub invariant-loop-round : goal.invariant-loop-round
invariant-loop-round l =
    ((l.count ≡ count_of l.jobs) × ((l.round ≤ l.rounds) × (l.rounds ≤ most_rounds)))
    × ((l.best.worth ≤ most_total) × Valued l.jobs l.step l.best.value)

abbrev pub decreases-loop-round : goal.decreases-loop-round
decreases-loop-round l = l.rounds - l.round
