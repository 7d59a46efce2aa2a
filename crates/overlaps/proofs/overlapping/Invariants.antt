-- `overlaps::overlapping` meets its contract.
use Rattle.bits.proofs.Walks.{Walk}
use Rattle.tables.specs.Tables.{count_of}
use Rattle.overlaps.proofs.overlapping.Given as goal

abbrev pub invariant-loop-k : goal.invariant-loop-k
invariant-loop-k l = Walk l.part.unplaced (count_of l.jobs) l.k-iterator.left
