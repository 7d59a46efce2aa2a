-- `widths::sums_of` meets its contract.
use Rattle.widths.proofs.Sums.{Summed}
use Rattle.widths.proofs.sums_of.Given as goal

abbrev pub invariant-loop-j : goal.invariant-loop-j
invariant-loop-j l = Summed l.jobs l.set l.sums l.j-iterator.left
