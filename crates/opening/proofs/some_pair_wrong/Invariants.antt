-- `opening::some_pair_wrong` meets its contract: no pair that was passed is wrong.
use mathlib.Core.Path.{◌≡◌}
use mathlib.Core.Bool.{Bool, false}
use mathlib.Core.List.{List}
use Prim.Native.Nat.{ℕ}
use lib.ListN.{length, get_or}
use Rattle.counting.specs.Counting.{any}
use Rattle.desk.specs.Checks.{wrong_pair}
use Rattle.opening.proofs.some_pair_wrong.Given as goal

abbrev pub wrong : ℕ → List ℕ → List ℕ → ℕ → Bool
wrong limit assured ceilings i = wrong_pair limit (get_or assured i 0) (get_or ceilings i 0)

abbrev pub invariant-loop-share : goal.invariant-loop-share
invariant-loop-share l = any (length l.yielded) (wrong l.limit l.assured l.ceilings) ≡ false
