-- `candidates::next_choice` meets its contract.
use Rattle.candidates.proofs.Choices.{Choosing}
use Rattle.candidates.proofs.next_choice.Given as goal

abbrev pub invariant-loop-j : goal.invariant-loop-j
invariant-loop-j l = Choosing l.at l.set l.count l.j-iterator.left l.c.job l.c.rank
