-- `fitting::turning::largest_share` meets its contract.
use Prim.Native.Nat.{◌-◌, ◌≤◌}
use Rattle.fitting.proofs.turning.largest_share.Given as goal

abbrev pub invariant-loop-i : goal.invariant-loop-i
invariant-loop-i l = l.i ≤ l.count
