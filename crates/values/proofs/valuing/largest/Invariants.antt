-- `values::valuing::largest` meets its contract.
use Prim.Native.Nat.{◌-◌, ◌≤◌, ◌<◌}
use Rattle.figures.specs.Figures.{most_jobs}
use Rattle.values.proofs.valuing.largest.Given as goal

abbrev pub invariant-loop-k : goal.invariant-loop-k
invariant-loop-k l = 0 < l.top
