-- `choices::add_job` meets its contract.
use Prim.Native.Nat.{◌-◌}
use Rattle.choices.proofs.Choices.{Doubling}
use Rattle.choices.proofs.add_job.Given as goal

abbrev pub invariant-loop-i : goal.invariant-loop-i
invariant-loop-i l = Doubling l.initial.at l.count l.kept l.at l.i
