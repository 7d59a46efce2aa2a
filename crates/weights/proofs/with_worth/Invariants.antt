-- `weights::with_worth` meets its contract.
use Prim.Native.Nat.{◌+◌, ◌*◌, ◌-◌, ◌≤◌}
use lib.ListN.{get_or, replicate}
use Rattle.weights.specs.Weights.{weightings, Put}
use Rattle.weights.proofs.with_worth.Given as goal

abbrev pub invariant-loop-q : goal.invariant-loop-q
invariant-loop-q l =
    Put (λ p. p) (replicate weightings 0) l.next l.q (λ p. get_or l.weight.of p 0 + get_or l.prepared.worth (l.k * weightings + p) 0)
