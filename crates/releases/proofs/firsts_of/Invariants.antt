-- `releases::firsts_of` meets its contract.
use Prim.Native.Nat.{◌-◌, ◌≤◌}
use lib.ListN.{replicate}
use Rattle.figures.specs.Figures.{most_jobs}
use Rattle.weights.specs.Weights.{Put}
use Rattle.releases.specs.Releases.{first_at}
use Rattle.releases.proofs.firsts_of.Given as goal

abbrev pub invariant-loop-k : goal.invariant-loop-k
invariant-loop-k l = Put (λ x. x) (replicate most_jobs 0) l.next l.k (first_at l.at l.least)
