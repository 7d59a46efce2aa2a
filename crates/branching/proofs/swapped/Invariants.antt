-- `branching::swapped` meets its contract.
use mathlib.Core.Path.{◌≡◌}
use Rattle.bits.proofs.Walks.{Walk}
use Rattle.tables.specs.Tables.{count_of}
use Rattle.relations.specs.Relations.{row_at}
use Rattle.branching.proofs.swapped.Given as goal

abbrev pub invariant-loop-i : goal.invariant-loop-i
invariant-loop-i l =
    (l.unplaced ≡ l.part.unplaced) × Walk (row_at l.prepared.related l.j).swapping (count_of l.jobs) l.i-iterator.left
