-- `weights::outweighed` meets its contract.
use Prim.Native.Nat.{◌-◌, ◌≤◌}
use Rattle.weights.specs.Weights.{weightings}
use Rattle.weights.proofs.outweighed.Given as goal

abbrev pub invariant-loop-q : goal.invariant-loop-q
invariant-loop-q l = l.q ≤ weightings
