-- `replay::busy_at` meets its contract.
use mathlib.Core.Path.{◌≡◌}
use Rattle.replay.specs.Slots.{busy_at}
use Rattle.replay.proofs.busy_at.Given as goal

abbrev pub invariant-loop-i : goal.invariant-loop-i
invariant-loop-i l = l.set ≡ busy_at l.slots l.i l.rest l.t
