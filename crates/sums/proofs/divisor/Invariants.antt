-- `sums::divisor` meets its contract.
use Prim.Native.Nat.{ℕ, ◌∣◌}
use Rattle.sums.proofs.divisor.Given as goal

-- what divides the two numbers divides the two at the beginning
abbrev pub invariant-loop-y : goal.invariant-loop-y
invariant-loop-y l = (d : ℕ) → d ∣ l.x → d ∣ l.y → (d ∣ l.a) × (d ∣ l.b)

abbrev pub decreases-loop-y : goal.decreases-loop-y
decreases-loop-y l = l.y
