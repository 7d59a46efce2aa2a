-- `fitting::cells::raise_cells` meets its contract.
use Prim.Native.Nat.{◌+◌, ◌-◌, ◌≤◌, max}
use Rattle.weights.specs.Weights.{Put}
use Rattle.fitting.specs.Fitting.{row_at}
use Rattle.fitting.proofs.cells.raise_cells.Given as goal

abbrev pub invariant-loop-i : goal.invariant-loop-i
invariant-loop-i l = Put (λ x. l.at + x) l.initial.slate l.slate l.i (λ x. max (row_at l.initial.slate l.upper x) (l.v + row_at l.initial.slate l.lower x))
