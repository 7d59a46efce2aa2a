-- `weights::with_weighting` meets its contract.
use mathlib.Core.Path.{◌≡◌}
use Prim.Native.Nat.{◌+◌, ◌-◌, ◌*◌, ◌≤◌}
use Rattle.tables.specs.Tables.{need_at, kept_at, count_of, modules_of}
use Rattle.weights.specs.Weights.{weightings, weight_in, Put}
use Rattle.weights.proofs.with_weighting.Given as goal

abbrev pub invariant-loop-k : goal.invariant-loop-k
invariant-loop-k l =
    ((l.count ≡ count_of l.jobs) × (l.k ≤ l.count))
    × (Put (λ i. i * weightings + l.q) l.initial.next.worth l.next.worth l.k (λ i. kept_at l.jobs i * weight_in (modules_of l.jobs) l.q (need_at l.jobs i))
    × (l.next.most ≡ l.initial.next.most))
