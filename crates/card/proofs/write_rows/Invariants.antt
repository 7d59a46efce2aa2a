-- `card::write_rows` meets its contract.
use mathlib.Core.Path.{◌≡◌}
use mathlib.Core.List.{◌++◌}
use Prim.Native.Nat.{◌*◌}
use lib.ListN.{length, drop}
use Rattle.counting.specs.Counting.{joined}
use Rattle.card.specs.Card.{row_size}
use Rattle.card.specs.Rows.{slot_row}
use Rattle.card.proofs.write_rows.Given as goal

abbrev pub invariant-loop-j : goal.invariant-loop-j
invariant-loop-j l = (l.part ≡ joined l.j (slot_row l.slots) ++ drop (row_size * l.j) l.initial.part) × (length l.part ≡ length l.initial.part)
