-- `weights::with_job` meets its contract.
use Prim.Native.Nat.{◌+◌, ◌-◌, ◌≤◌}
use lib.ListN.{replicate}
use Rattle.weights.specs.Weights.{widths, most_with, Put}
use Rattle.weights.proofs.with_job.Given as goal

abbrev pub invariant-loop-x : goal.invariant-loop-x
invariant-loop-x l =
    Put (λ y. y) (replicate widths 0) l.next l.x (most_with l.table.at l.width l.weight)
