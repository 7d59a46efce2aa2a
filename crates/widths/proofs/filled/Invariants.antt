-- `widths::filled` meets its contract.
use mathlib.Core.Path.{◌≡◌}
use mathlib.Core.Bool.{false}
use Prim.Native.Nat.{ℕ, ◌≤◌, ◌<◌}
use Rattle.bits.specs.Bits.{bit}
use Rattle.widths.specs.Widths.{limit}
use Rattle.widths.proofs.filled.Given as goal

abbrev pub invariant-loop-s : goal.invariant-loop-s
invariant-loop-s l = (l.free < limit) × (l.s ≤ l.free) × ((x : ℕ) → l.s < x → x ≤ l.free → bit l.sums x ≡ false)

abbrev pub decreases-loop-s : goal.decreases-loop-s
decreases-loop-s l = l.s
