-- The same lines, from the bytes of a card.
use Rattle.std.specs.Prelude.{List, ◌++◌, ℕ, ◌+◌, ◌*◌}
use Rattle.counting.specs.Counting.{joined}
use Rattle.card.specs.Card.{row_size, row_end, row_modules, trailer_at, trailer_end}
use Rattle.words.specs.Words.{number_at}
use Rattle.sheet.specs.Read.{reading}
use Rattle.sheet.specs.Label.{label_of}
use Rattle.plan_text.specs.Printed.{plan_line, job_line, departure_of}

-- the line of job j, whose row is on the card
abbrev pub row_line : List ℕ → List ℕ → ℕ → ℕ → List ℕ
row_line s card departure j =
    job_line (label_of s j) (number_at card (row_size * j) 2) (number_at card (row_size * j + row_end) 2) departure
    (number_at card (row_size * j + row_modules) 8)

-- a line per job
abbrev pub row_lines : List ℕ → List ℕ → List ℕ
row_lines s card = joined (reading s).count (λ j. row_line s card (departure_of s j) j)

abbrev pub card_lines : List ℕ → List ℕ → List ℕ
card_lines s card =
    plan_line (number_at card (trailer_at (reading s).count + trailer_end) 2) (reading s).count (reading s).modules ++ row_lines s card
