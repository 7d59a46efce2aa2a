-- `fitting::valuing::worth_of` meets its contract.
use mathlib.Core.Path.{◌≡◌}
use Prim.Native.Nat.{◌*◌, ◌-◌, ◌≤◌}
use lib.ListN.{get_or}
use Rattle.counting.specs.Counting.{sum}
use Rattle.figures.specs.Figures.{most_modules}
use Rattle.tables.specs.Tables.{need_at, count_of}
use Rattle.fitting.specs.Fitting.{top_value}
use Rattle.fitting.proofs.valuing.worth_of.Given as goal

abbrev pub invariant-loop-k : goal.invariant-loop-k
invariant-loop-k l =
    ((l.count ≡ count_of l.jobs) × (l.k ≤ l.count)) × ((l.total ≡ sum l.k (λ i. need_at l.jobs i * get_or l.value i 0)) × (l.total ≤ most_modules * top_value * l.k))
