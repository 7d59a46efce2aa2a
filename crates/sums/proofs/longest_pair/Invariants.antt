-- `sums::longest_pair` meets its contract.
use Prim.Native.Nat.{◌-◌, ◌≤◌}
use mathlib.Core.Path.{◌≡◌}
use Rattle.sums.specs.Sums.{longest_pair}
use Rattle.sums.proofs.longest_pair.Given as goal

abbrev pub invariant-loop-i : goal.invariant-loop-i
invariant-loop-i l = l.r ≡ longest_pair l.low l.i l.high l.highs l.x
