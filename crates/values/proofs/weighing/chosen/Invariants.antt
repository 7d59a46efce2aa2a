-- `values::weighing::chosen` meets its contract.
use Prim.Native.Nat.{◌-◌, ◌≤◌}
use Rattle.weights.specs.Weights.{weightings}
use Rattle.values.specs.Values.{Chosen}
use Rattle.values.proofs.weighing.chosen.Given as goal

abbrev pub invariant-loop-q : goal.invariant-loop-q
invariant-loop-q l = Chosen l.jobs l.best.weight l.best.most
