-- `candidates::starts_of` meets its contract.
use Rattle.candidates.specs.Candidates.{Known}
use Rattle.candidates.proofs.Starting.{Starting}
use Rattle.candidates.proofs.starts_of.Given as goal

abbrev pub invariant-loop-j : goal.invariant-loop-j
invariant-loop-j l = (known : Known l.jobs l.part) × Starting known l.at l.least l.j-iterator.left
