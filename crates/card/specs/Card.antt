-- The plan card (P-20).
use Rattle.std.specs.Prelude.{List, ◌++◌, ℕ, ◌+◌, ◌*◌, ℤ, pos, ◌-ℤ◌}
use Rattle.counting.specs.Counting.{joined}
use Rattle.words.specs.Words.{bytes_of}
use Rattle.bits.specs.Bits.{set_of}
use Rattle.schedule.specs.Plan.{Sheet, finish}
use Rattle.schedule.specs.ListPlan.{list_plan}
use Rattle.schedule.specs.TieRule.{end_of}

-- the bytes of a row, and where its end and its module set stand in it
abbrev pub row_size : ℕ
row_size = 12

abbrev pub row_end : ℕ
row_end = 2

abbrev pub row_modules : ℕ
row_modules = 4

-- the bytes of the trailer, and where the plan's end and the number of jobs stand in it
abbrev pub trailer_size : ℕ
trailer_size = 8

abbrev pub trailer_end : ℕ
trailer_end = 4

abbrev pub trailer_count : ℕ
trailer_count = 6

-- where the order begins on the card of n jobs, and where the trailer does
abbrev pub order_at : ℕ → ℕ
order_at n = row_size * n

abbrev pub trailer_at : ℕ → ℕ
trailer_at n = (row_size + 1) * n

-- "It has 13n + 8 bytes."
abbrev pub card_size : ℕ → ℕ
card_size n = trailer_at n + trailer_size

-- a row: "start (2 bytes), end (2), module set (8, bit m for module m)"
unfoldable pub row_bytes : ℕ → ℕ → ℕ → List ℕ
row_bytes start end modules = bytes_of 2 start ++ (bytes_of 2 end ++ bytes_of 8 modules)

-- "a trailer: offset of the order (4), plan's end (2), n (2)"
unfoldable pub trailer_bytes : ℕ → ℕ → List ℕ
trailer_bytes n end = bytes_of 4 (order_at n) ++ (bytes_of 2 end ++ bytes_of 2 n)

-- "n rows of 12 bytes in job order", "then the order, a byte per job", "then a trailer"
unfoldable pub card_bytes : ℕ → (ℕ → List ℕ) → List ℕ → ℕ → List ℕ
card_bytes n row order end = joined n row ++ (order ++ trailer_bytes n end)

-- the row of job j in the list plan of the order o
abbrev pub row_of : Sheet → List ℕ → ℕ → List ℕ
row_of S o j = row_bytes ((list_plan S o).start j) (finish S (list_plan S o) j) (set_of S.modules ((list_plan S o).uses j))

-- the card of the list plan of the order o
abbrev pub card_of : Sheet → List ℕ → List ℕ
card_of S o = card_bytes S.jobs (row_of S o) o (end_of S o)

-- "Lateness of a job is its end minus its departure and may be negative"
abbrev pub lateness_of : ℕ → ℕ → ℤ
lateness_of end departure = pos end -ℤ pos departure
