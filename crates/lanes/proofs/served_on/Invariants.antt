-- `lanes::served_on` meets its contract.
use mathlib.Core.Path.{◌≡◌}
use Prim.Native.Nat.{◌-◌}
use Rattle.tables.specs.Tables.{modules_of}
use Rattle.weights.proofs.Walks.{Walk}
use Rattle.values.specs.Values.{most_at}
use Rattle.lanes.specs.Lanes.{reach_in, ReachesTo, Serving}
use Rattle.lanes.proofs.Laws.{Served}
use Rattle.lanes.proofs.served_on.Given as goal

abbrev pub invariant-loop-i : goal.invariant-loop-i
invariant-loop-i l =
    ((l.placed ≡ l.part.placed) × ReachesTo l.prepared.lanes l.close)
    × ((s : Serving (most_at l.prepared.lanes) (reach_in l.prepared.lanes) l.part l.gone l.free (modules_of l.jobs) l.least l.close)
    × (Walk l.part (modules_of l.jobs) l.close l.at l.f l.i × Served s l.total l.at l.reach))
