-- `fitting::shown` meets its contract.
use mathlib.Core.Path.{◌≡◌}
use Prim.Native.Nat.{◌-◌, ◌≤◌}
use lib.ListN.{length}
use Rattle.fitting.specs.Fitting.{slate_size}
use Rattle.fitting.proofs.shown.Given as goal

abbrev pub invariant-loop-turns : goal.invariant-loop-turns
invariant-loop-turns l = length l.slate ≡ slate_size
