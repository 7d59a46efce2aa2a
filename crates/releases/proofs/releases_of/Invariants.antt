-- `releases::releases_of` meets its contract.
use mathlib.Core.Path.{◌≡◌}
use Prim.Native.Nat.{◌-◌, ◌≤◌}
use lib.ListN.{length}
use Rattle.figures.specs.Figures.{most_jobs}
use Rattle.releases.specs.Releases.{Releases}
use Rattle.releases.proofs.releases_of.Given as goal

abbrev pub invariant-loop-k : goal.invariant-loop-k
invariant-loop-k l = (length l.next ≡ most_jobs) × Releases l.jobs l.at l.set l.least l.next
