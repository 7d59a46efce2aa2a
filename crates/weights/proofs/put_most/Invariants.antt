-- `weights::put_most` meets its contract.
use mathlib.Core.Path.{◌≡◌}
use Prim.Native.Nat.{◌+◌, ◌*◌, ◌-◌, ◌≤◌}
use lib.ListN.{get_or}
use Rattle.weights.specs.Weights.{weightings, widths, Put}
use Rattle.weights.proofs.put_most.Given as goal

abbrev pub invariant-loop-x : goal.invariant-loop-x
invariant-loop-x l =
    Put (λ i. i * weightings + l.q) l.initial.next.most l.next.most l.x (λ i. get_or l.table i 0) × (l.next.worth ≡ l.initial.next.worth)
