-- `weights::weightings` meets its contract.
use Prim.Native.Nat.{◌-◌, ◌≤◌}
use Rattle.weights.specs.Weights.{weightings, WeightedTo}
use Rattle.weights.proofs.weightings.Given as goal

abbrev pub invariant-loop-q : goal.invariant-loop-q
invariant-loop-q l = WeightedTo l.jobs l.all.worth l.all.most l.q
