-- `areas::late_work` meets its contract.
use Rattle.bits.proofs.Walks.{Walk}
use Rattle.bits.proofs.Weighing.{Weighed}
use Rattle.tables.specs.Tables.{count_of}
use Rattle.areas.specs.Areas.{late_work}
use Rattle.areas.proofs.late_work.Given as goal

abbrev pub invariant-loop-k : goal.invariant-loop-k
invariant-loop-k l =
    Walk l.set (count_of l.jobs) l.k-iterator.left × Weighed l.set (count_of l.jobs) (late_work l.jobs l.prepared l.l l.a) l.k-iterator.left l.total
