-- `label_check::wrong_bytes` meets its contract: after i bytes it is known whether one of them is wrong.
use mathlib.Core.Path.{◌≡◌}
use mathlib.Core.Bool.{Bool}
use mathlib.Core.List.{List}
use Prim.Native.Nat.{ℕ}
use lib.ListN.{get_or}
use Rattle.counting.specs.Counting.{any}
use Rattle.sheet_format.specs.Figures.{first_label_byte, last_label_byte}
use Rattle.sheet_format.specs.Checks.{outside}
use Rattle.label_check.proofs.wrong_bytes.Given as goal

-- the test of byte k
abbrev pub wrong : List ℕ → ℕ → Bool
wrong bytes k = outside first_label_byte last_label_byte (get_or bytes k 0)

abbrev pub invariant-loop-b : goal.invariant-loop-b
invariant-loop-b l = l.found ≡ any l.b-index (wrong l.bytes)
