-- `preparing::widened` meets its contract.
use Rattle.std.proofs.Common.{◌≡◌, ℕ, ◌<◌, length, get_or}
use Rattle.preparing.proofs.widened.Given as goal

abbrev pub invariant-loop-i : goal.invariant-loop-i
invariant-loop-i g l = (length l.wide ≡ length l.list) × ((k : ℕ) → k < l.i → get_or l.wide k 0 ≡ get_or l.list k 0)
