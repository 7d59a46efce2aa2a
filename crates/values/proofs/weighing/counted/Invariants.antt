-- `values::weighing::counted` meets its contract.
use Prim.Native.Nat.{◌+◌, ◌-◌, ◌≤◌}
use lib.ListN.{replicate}
use Rattle.weights.specs.Weights.{widths, Put}
use Rattle.values.proofs.weighing.counted.Given as goal

abbrev pub invariant-loop-x : goal.invariant-loop-x
invariant-loop-x l = Put (λ y. y) (replicate widths 0) l.next l.x (λ y. y)
