-- `values::serving::with_value` meets its contract.
use Prim.Native.Nat.{◌-◌, ◌≤◌}
use Rattle.weights.specs.Weights.{most_with, Put}
use Rattle.values.specs.Values.{steps}
use Rattle.values.proofs.serving.with_value.Given as goal

abbrev pub invariant-loop-x : goal.invariant-loop-x
invariant-loop-x l = (l.width ≤ l.x) × Put (λ y. y) l.old l.next l.x (most_with l.old l.width l.value)
