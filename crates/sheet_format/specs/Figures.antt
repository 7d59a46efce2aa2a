-- The figures of job sheets (requirements, S and C). Each stands here or in `figures` once; src/layout.rt has a
-- constant for each.
use Rattle.std.specs.Prelude.{ℕ}
-- n is 0 to 20, N is 1 to 64, a changeover takes 0 to 30 minutes, a job 1 to 1440 minutes, an arrival is 0 to 1440
pub use Rattle.figures.specs.Figures.{most_jobs, most_modules, longest_changeover, most_minutes, last_arrival}

-- the longest sheet has 570 bytes
abbrev pub longest_sheet : ℕ
longest_sheet = 570

-- a record has 12 bytes
abbrev pub record_size : ℕ
record_size = 12

-- the trailer has 10 bytes, and the shortest sheet is a trailer alone
abbrev pub trailer_size : ℕ
trailer_size = 10

-- a label has 1 to 16 bytes
abbrev pub longest_label : ℕ
longest_label = 16

-- a label byte is 32 to 126
abbrev pub first_label_byte : ℕ
first_label_byte = 32

abbrev pub last_label_byte : ℕ
last_label_byte = 126

-- a label neither begins nor ends with a space
abbrev pub space : ℕ
space = 32

-- a job needs 1 to 255 modules
abbrev pub widest_job : ℕ
widest_job = 255

-- a departure is 0 to 2880
abbrev pub last_departure : ℕ
last_departure = 2880
