-- `values::weighing::total` meets its contract.
use Prim.Native.Nat.{◌-◌, ◌*◌, ◌≤◌}
use Rattle.values.proofs.weighing.total.Given as goal

abbrev pub invariant-loop-k : goal.invariant-loop-k
invariant-loop-k l = l.sum ≤ 4294967296 * l.k
