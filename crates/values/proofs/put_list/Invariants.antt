-- `values::put_list` meets its contract.
use Prim.Native.Nat.{◌+◌, ◌-◌, ◌≤◌}
use lib.ListN.{length, get_or}
use Rattle.weights.specs.Weights.{Put}
use Rattle.values.proofs.put_list.Given as goal

abbrev pub invariant-loop-x : goal.invariant-loop-x
invariant-loop-x l = Put (λ i. l.at + i) l.initial.next.of l.next.of l.x (λ i. get_or l.list i 0)
