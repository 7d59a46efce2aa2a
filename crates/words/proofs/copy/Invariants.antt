-- `words::copy` meets its contract: the first i bytes are copied.
use mathlib.Core.Path.{◌≡◌}
use mathlib.Core.List.{◌++◌}
use lib.ListN.{length, take, drop}
use Rattle.words.proofs.copy.Given as goal

abbrev pub invariant-loop-i : goal.invariant-loop-i
invariant-loop-i l = (l.part ≡ take l.i l.bytes ++ drop l.i l.initial.part) × (length l.part ≡ length l.initial.part)
