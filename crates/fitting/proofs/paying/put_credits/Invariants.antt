-- `fitting::paying::put_credits` meets its contract.
use mathlib.Core.Path.{◌≡◌}
use Prim.Native.Nat.{◌+◌, ◌-◌, ◌≤◌}
use lib.ListN.{length}
use Rattle.figures.specs.Figures.{most_jobs}
use Rattle.fitting.proofs.paying.put_credits.Given as goal

abbrev pub invariant-loop-count : goal.invariant-loop-count
invariant-loop-count l = length l.slate ≡ length l.initial.slate
