-- `opening::shares_in_all` meets its contract: the total is that of the shares passed, each at most the largest limit.
use mathlib.Core.Path.{◌≡◌}
use lib.ListN.{get_or}
use Rattle.counting.specs.Counting.{sum}
use Rattle.opening.proofs.shares_in_all.Given as goal

abbrev pub invariant-loop-share : goal.invariant-loop-share
invariant-loop-share l = l.total ≡ sum l.share-index (λ k. get_or l.assured k 0)
