-- `fitting::turning::squares_of` meets its contract.
use Prim.Native.Nat.{◌-◌, ◌*◌, ◌≤◌}
use Rattle.fitting.proofs.turning.squares_of.Given as goal

abbrev pub invariant-loop-i : goal.invariant-loop-i
invariant-loop-i l = l.total ≤ 4294967295 * l.i
