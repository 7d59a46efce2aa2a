-- `choices::longest_fit` meets its contract.
use Prim.Native.Nat.{◌-◌, ◌≤◌}
use mathlib.Core.Path.{◌≡◌}
use Rattle.choices.specs.Choices.{longest}
use Rattle.choices.proofs.longest_fit.Given as goal

abbrev pub invariant-loop-i : goal.invariant-loop-i
invariant-loop-i l = l.r ≡ longest l.at l.i l.x
