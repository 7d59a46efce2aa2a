-- The rows of a plan's slots.
use Rattle.std.specs.Prelude.{List, ℕ, get_or}
use Rattle.replay.specs.declared.Slots.{Slots}
use Rattle.card.specs.Card.{row_bytes}

-- the row of job j
abbrev pub slot_row : Slots → ℕ → List ℕ
slot_row s j = row_bytes (get_or s.start j 0) (get_or s.end j 0) (get_or s.modules j 0)
