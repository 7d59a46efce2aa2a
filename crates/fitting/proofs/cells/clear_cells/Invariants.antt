-- `fitting::cells::clear_cells` meets its contract.
use Prim.Native.Nat.{◌+◌, ◌-◌, ◌≤◌}
use Rattle.weights.specs.Weights.{Put}
use Rattle.fitting.proofs.cells.clear_cells.Given as goal

abbrev pub invariant-loop-i : goal.invariant-loop-i
invariant-loop-i l = Put (λ x. 0 + x) l.initial.slate l.slate l.i (λ x. 0)
