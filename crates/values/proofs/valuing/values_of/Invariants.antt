-- `values::valuing::values_of` meets its contract.
use mathlib.Core.Path.{◌≡◌}
use Prim.Native.Nat.{◌-◌, ◌≤◌}
use lib.ListN.{length}
use Rattle.figures.specs.Figures.{most_jobs}
use Rattle.tables.specs.Tables.{count_of}
use Rattle.values.specs.Values.{Valued}
use Rattle.values.proofs.valuing.values_of.Given as goal

abbrev pub invariant-loop-k : goal.invariant-loop-k
invariant-loop-k l = ((l.count ≡ count_of l.jobs) × (l.k ≤ l.count)) × ((length l.next ≡ most_jobs) × Valued l.jobs l.step l.next)
