-- `values::put_worth` meets its contract.
use Prim.Native.Nat.{◌+◌, ◌-◌, ◌*◌, ◌≤◌}
use lib.ListN.{get_or}
use Rattle.weights.specs.Weights.{Put}
use Rattle.figures.specs.Figures.{most_jobs}
use Rattle.values.specs.Values.{worth_place}
use Rattle.values.proofs.put_worth.Given as goal

abbrev pub invariant-loop-k : goal.invariant-loop-k
invariant-loop-k l = Put (λ i. worth_place + i) l.initial.next.of l.next.of l.k (λ i. get_or l.weight i 0 * get_or l.value i 0)
