-- `weights::with_room` meets its contract.
use Prim.Native.Nat.{◌+◌, ◌*◌, ◌-◌, ◌≤◌}
use lib.ListN.{get_or, replicate}
use Rattle.weights.specs.Weights.{weightings, Put}
use Rattle.weights.proofs.with_room.Given as goal

abbrev pub invariant-loop-q : goal.invariant-loop-q
invariant-loop-q l =
    Put (λ p. p) (replicate weightings 0) l.next l.q (λ p. get_or l.room.of p 0 + get_or l.prepared.most (l.row + p) 0 * l.minutes)
