-- The lines that are printed of a plan and of a refusal: X-2 to X-4.
use Rattle.std.specs.Prelude.{List, [], ◌∷◌, ℕ}
use Rattle.figures.specs.Figures.{most_jobs}
use Rattle.card.specs.Card.{card_size, lateness_of}
use Rattle.sheet_format.specs.Format.{jobs_in}
use Rattle.sheet.specs.Read.{reading}
use Rattle.text.specs.Numbers.{decimal, signed, hexadecimal}
use Rattle.text.specs.Lines.{line}

-- `plan`
abbrev pub plan_word : List ℕ
plan_word = 112 ∷ 108 ∷ 97 ∷ 110 ∷ []

-- `refused`
abbrev pub refused_word : List ℕ
refused_word = 114 ∷ 101 ∷ 102 ∷ 117 ∷ 115 ∷ 101 ∷ 100 ∷ []

-- "It prints `plan`, the end, n and N;"
unfoldable pub plan_line : ℕ → ℕ → ℕ → List ℕ
plan_line end n N = line plan_word (decimal end ∷ decimal n ∷ decimal N ∷ [])

-- "start, end, lateness, the module set as 16 upper-case hexadecimal digits, and the label"
unfoldable pub job_line : List ℕ → ℕ → ℕ → ℕ → ℕ → List ℕ
job_line label start end departure modules =
    line (decimal start) (decimal end ∷ signed (lateness_of end departure) ∷ hexadecimal modules ∷ label ∷ [])

-- "A refused sheet prints one line, `refused` and the number."
unfoldable pub refused_line : ℕ → List ℕ
refused_line number = line refused_word (decimal number ∷ [])

-- the departure in the record of job j
abbrev pub departure_of : List ℕ → ℕ → ℕ
departure_of s j = (jobs_in (reading s).jobs j).departure

-- the longest card: planning with a card of this length never refuses with 10 (`card_fits_lem`)
abbrev pub longest_card : ℕ
longest_card = card_size most_jobs
