-- `weights::set_worth` meets its contract.
use Prim.Native.Nat.{ℕ, ◌+◌, ◌*◌, ◌<◌}
use lib.ListN.{get_or}
use Rattle.bits.proofs.Walks.{Walk}
use Rattle.bits.proofs.Weighing.{Weighed}
use Rattle.tables.specs.Tables.{count_of}
use Rattle.weights.specs.Weights.{weightings}
use Rattle.weights.proofs.set_worth.Given as goal

abbrev pub invariant-loop-k : goal.invariant-loop-k
invariant-loop-k l =
    Walk l.part.unplaced (count_of l.jobs) l.k-iterator.left
    × ((q : ℕ) → q < weightings
    → Weighed l.part.unplaced (count_of l.jobs) (λ k. get_or l.prepared.worth (k * weightings + q) 0) l.k-iterator.left (get_or l.weight.of q 0))
