-- `starting::first_end` meets its contract.
use Rattle.bits.proofs.Walks.{Walk}
use Rattle.tables.specs.Tables.{count_of}
use Rattle.starting.specs.Starting.{EndOfOne}
use Rattle.starting.proofs.first_end.Given as goal

abbrev pub invariant-loop-j : goal.invariant-loop-j
invariant-loop-j l = Walk l.set (count_of l.jobs) l.j-iterator.left × EndOfOne l.jobs l.at l.r
