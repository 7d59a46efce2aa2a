-- `areas::too_late` meets its contract.
use mathlib.Core.Path.{◌≡◌}
use Prim.Native.Nat.{◌+◌}
use Rattle.bits.proofs.Walks.{Walk}
use Rattle.tables.specs.Tables.{count_of, changeover_of}
use Rattle.areas.proofs.too_late.Given as goal

abbrev pub invariant-loop-k : goal.invariant-loop-k
invariant-loop-k l = (l.close ≡ l.target + changeover_of l.jobs) × Walk l.part.unplaced (count_of l.jobs) l.k-iterator.left
