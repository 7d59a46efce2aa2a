-- `values::weighing::weights_in` meets its contract.
use mathlib.Core.Path.{◌≡◌}
use Prim.Native.Nat.{◌-◌, ◌≤◌}
use lib.ListN.{replicate}
use Rattle.figures.specs.Figures.{most_jobs}
use Rattle.tables.specs.Tables.{need_at, count_of, modules_of}
use Rattle.weights.specs.Weights.{weight_in, Put}
use Rattle.values.proofs.weighing.weights_in.Given as goal

abbrev pub invariant-loop-k : goal.invariant-loop-k
invariant-loop-k l =
    ((l.count ≡ count_of l.jobs) × (l.k ≤ l.count))
    × Put (λ i. i) (replicate most_jobs 0) l.next l.k (λ i. weight_in (modules_of l.jobs) l.q (need_at l.jobs i))
