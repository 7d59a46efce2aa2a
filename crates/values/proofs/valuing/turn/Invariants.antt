-- `values::valuing::turn` meets its contract.
use Prim.Native.Nat.{◌-◌, ◌≤◌}
use Rattle.figures.specs.Figures.{most_jobs}
use Rattle.values.proofs.valuing.turn.Given as goal

abbrev pub invariant-loop-k : goal.invariant-loop-k
invariant-loop-k l = l.k ≤ most_jobs
