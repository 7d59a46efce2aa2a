-- `relations::lengthen` meets its contract.
use Prim.Native.Nat.{◌-◌}
use Rattle.relations.proofs.Chaining.{Lengthening}
use Rattle.relations.proofs.lengthen.Given as goal

abbrev pub invariant-loop-j : goal.invariant-loop-j
invariant-loop-j l = Lengthening l.jobs l.k l.tails.at l.next l.j
