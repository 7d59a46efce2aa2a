-- `lanes::set_worth` meets its contract.
use Rattle.bits.proofs.Walks.{Walk}
use Rattle.bits.proofs.Weighing.{Weighed}
use Rattle.tables.specs.Tables.{count_of}
use Rattle.values.specs.Values.{worth_at}
use Rattle.lanes.proofs.set_worth.Given as goal

abbrev pub invariant-loop-k : goal.invariant-loop-k
invariant-loop-k l =
    Walk l.part.unplaced (count_of l.jobs) l.k-iterator.left
    × Weighed l.part.unplaced (count_of l.jobs) (worth_at l.prepared.lanes) l.k-iterator.left l.total
