-- `areas::held_after` meets its contract.
use Prim.Native.Nat.{◌-◌}
use mathlib.Core.Path.{◌≡◌}
use Prim.Native.Nat.{◌-◌}
use Rattle.areas.proofs.Summing.{Summing}
use Rattle.areas.proofs.held_after.Given as goal

abbrev pub invariant-loop-i : goal.invariant-loop-i
invariant-loop-i l = (l.count ≡ l.part.placed) × Summing l.part l.l l.total l.i
