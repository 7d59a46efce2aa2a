-- `fitting::serving::served` meets its contract.
use mathlib.Core.Path.{◌≡◌}
use Prim.Native.Nat.{◌+◌, ◌-◌, ◌≤◌}
use Rattle.tables.specs.Tables.{modules_of}
use Rattle.weights.proofs.Walks.{Walk}
use Rattle.lanes.specs.Lanes.{Serving}
use Rattle.lanes.proofs.Laws.{Served}
use Rattle.fitting.specs.Fitting.{cells, row_at, reach_by, Framed}
use Rattle.fitting.proofs.serving.served.Given as goal

abbrev pub invariant-loop-i : goal.invariant-loop-i
invariant-loop-i l =
    ((l.placed ≡ l.part.placed) × ((Framed l.frame × (l.base + l.frame.cols ≤ cells)) × (l.frame.least ≤ l.at)))
    × ((s : Serving (λ x. x) (reach_by l.frame (row_at l.slate l.base)) l.part l.gone l.free (modules_of l.jobs) l.frame.least l.frame.close)
    × (Walk l.part (modules_of l.jobs) l.frame.close l.at l.f l.i × Served s l.total l.at l.reach))
