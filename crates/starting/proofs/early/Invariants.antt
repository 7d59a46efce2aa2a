-- `starting::early` meets its contract.
use Rattle.starting.proofs.Sifting.{Sifting}
use Rattle.starting.proofs.early.Given as goal

abbrev pub invariant-loop-j : goal.invariant-loop-j
invariant-loop-j l = Sifting l.at l.end l.set l.count l.r l.j-iterator.left
