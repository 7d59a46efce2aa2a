-- `memory::write_figures` meets its contract.
use Prim.Native.Nat.{◌-◌}
use Rattle.memory.proofs.Storing.{Storing}
use Rattle.memory.proofs.write_figures.Given as goal

abbrev pub invariant-loop-i : goal.invariant-loop-i
invariant-loop-i l = Storing l.part.ends l.jobs l.part.last l.figures l.i
