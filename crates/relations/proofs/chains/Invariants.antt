-- `relations::chains` meets its contract.
use Prim.Native.Nat.{◌-◌, ◌≤◌}
use Rattle.relations.specs.Relations.{ChainsOf}
use Rattle.relations.proofs.chains.Given as goal

abbrev pub invariant-loop-k : goal.invariant-loop-k
invariant-loop-k l = ChainsOf l.jobs l.tails.at l.k
