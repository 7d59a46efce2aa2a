-- `heads::of_all` meets its contract.
use Prim.Native.Nat.{◌-◌, ◌≤◌}
use Rattle.heads.specs.Heads.{HeadsOf}
use Rattle.heads.proofs.of_all.Given as goal

abbrev pub invariant-loop-k : goal.invariant-loop-k
invariant-loop-k l = HeadsOf l.jobs l.heads.at l.k
