-- `heads::advance` meets its contract.
use Prim.Native.Nat.{◌-◌}
use Rattle.heads.proofs.Advancing.{Advancing}
use Rattle.heads.proofs.advance.Given as goal

abbrev pub invariant-loop-j : goal.invariant-loop-j
invariant-loop-j l = Advancing l.jobs l.k l.heads.at l.next l.j
