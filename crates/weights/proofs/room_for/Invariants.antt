-- `weights::room_for` meets its contract.
use mathlib.Core.Path.{◌≡◌}
use Prim.Native.Nat.{ℕ, ◌+◌, ◌*◌, ◌-◌, ◌<◌}
use lib.ListN.{get_or}
use Rattle.tables.specs.Tables.{modules_of}
use Rattle.weights.specs.Weights.{weightings}
use Rattle.weights.proofs.Walks.{Walk, Room}
use Rattle.weights.proofs.room_for.Given as goal

abbrev pub invariant-loop-i : goal.invariant-loop-i
invariant-loop-i l =
    ((l.placed ≡ l.part.placed) × Walk l.part (modules_of l.jobs) l.close l.at l.f l.i)
    × ((q : ℕ) → q < weightings
    → Room (λ x. get_or l.prepared.most (x * weightings + q) 0) l.part (modules_of l.jobs) l.least l.close (get_or l.room.of q 0) l.at)
