-- `values::serving::with_set` meets its contract.
use Prim.Native.Nat.{◌-◌, ◌≤◌}
use Rattle.values.specs.Values.{steps}
use Rattle.values.proofs.serving.with_set.Given as goal

abbrev pub invariant-loop-x : goal.invariant-loop-x
invariant-loop-x l = l.width ≤ l.x
