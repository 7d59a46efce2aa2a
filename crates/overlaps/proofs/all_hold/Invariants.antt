-- `overlaps::all_hold` meets its contract.
use Rattle.bits.proofs.Walks.{Walk}
use Rattle.bits.proofs.Weighing.{Weighed}
use Rattle.tables.specs.Tables.{count_of}
use Rattle.overlaps.specs.Overlaps.{must_hold}
use Rattle.overlaps.proofs.all_hold.Given as goal

abbrev pub invariant-loop-k : goal.invariant-loop-k
invariant-loop-k l =
    Walk l.set (count_of l.jobs) l.k-iterator.left × Weighed l.set (count_of l.jobs) (must_hold l.jobs l.prepared l.l l.target l.m) l.k-iterator.left l.total
