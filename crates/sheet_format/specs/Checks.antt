-- The checks of reading, labels and writing (requirements, C), each a test that is true where the check fails.
use Rattle.std.specs.Prelude.{◌≡◌, ◌⊎◌, ◌≢◌, Bool, not, ◌||◌, List, [], ◌∷◌, ◌++◌, ℕ, ◌+◌, ◌-◌, ◌*◌, ◌^◌, ◌≤◌, ◌<◌, ltb, leb, eqb, length}
use Rattle.counting.specs.Counting.{any}
use Rattle.checking.specs.Checking.{Check}
use Rattle.sheet_format.specs.declared.Job.{Job}
use Rattle.sheet_format.specs.Figures.{most_jobs, most_modules, longest_changeover, longest_sheet, record_size, trailer_size, longest_label}
use Rattle.sheet_format.specs.Figures.{first_label_byte, last_label_byte, space, widest_job, most_minutes, last_departure, last_arrival}
use Rattle.words.specs.Words.{byte_at}
use Rattle.sheet_format.specs.Format.{label_length, label_lengths, label_in, offset_of, count_of, cabinet_of}
use Rattle.sheet_format.specs.declared.Cabinet.{Cabinet}

-- x is not one of low to high
unfoldable pub outside : ℕ → ℕ → ℕ → Bool
outside low high x = ltb x low || ltb high x

-- 1. The sheet has fewer than 10 or more than 570 bytes.
abbrev pub wrong_length : List ℕ → Bool
wrong_length s = outside trailer_size longest_sheet (length s)

-- 2. There are more than 20 jobs.
abbrev pub too_many_jobs : ℕ → Bool
too_many_jobs n = ltb most_jobs n

-- 3. N is 0 or above 64.
abbrev pub wrong_modules : ℕ → Bool
wrong_modules N = outside 1 most_modules N

-- 19. The changeover is above 30.
abbrev pub wrong_changeover : ℕ → Bool
wrong_changeover changeover = ltb longest_changeover changeover

-- 4. The record offset plus 12n plus 10 is not the sheet's length.
abbrev pub wrong_offset : List ℕ → Bool
wrong_offset s = not (eqb (offset_of s + record_size * count_of s + trailer_size) (length s))

-- a record of n jobs has a field outside its range, or an earlier-job bit at n or higher (its earlier jobs are 2 ^ n or more)
unfoldable pub faulty : ℕ → Job → Bool
faulty n j =
    outside 1 longest_label (label_length j)
    || (outside 1 widest_job j.modules
    || (outside 1 most_minutes j.minutes
    || (outside 0 last_departure j.departure
    || (outside 0 last_arrival j.arrival
    || leb (2 ^ n) j.earlier))))

-- 5. Some record has a field outside its range above, or an earlier-job bit at n or higher.
abbrev pub some_faulty : ℕ → (ℕ → Job) → Bool
some_faulty n jobs = any n (λ i. faulty n (jobs i))

-- 6. The label lengths do not add up to the label bytes there are.
abbrev pub wrong_lengths : ℕ → (ℕ → Job) → List ℕ → Bool
wrong_lengths n jobs labels = not (eqb (label_lengths n jobs) (length labels))

-- some byte is below 32 or above 126
abbrev pub wrong_bytes : List ℕ → Bool
wrong_bytes bytes = any (length bytes) (λ i. outside first_label_byte last_label_byte (byte_at bytes i))

-- a label has such a byte, or its first or its last byte is a space
unfoldable pub wrong_label : List ℕ → Bool
wrong_label label = wrong_bytes label || (eqb (byte_at label 0) space || eqb (byte_at label (length label - 1)) space)

-- the same as a statement (`wrong_when`)
abbrev pub WrongLabel : List ℕ → Type 0
WrongLabel label =
    ((k : ℕ) × (k < length label) × ((byte_at label k < first_label_byte) ⊎ (last_label_byte < byte_at label k)))
    ⊎ ((byte_at label 0 ≡ space) ⊎ (byte_at label (length label - 1) ≡ space))

-- a label as it must be
pub record LegalLabel (label : List ℕ) : Type 0 where
  pub some : 1 ≤ length label
  pub most : length label ≤ longest_label
  pub bytes : (k : ℕ) → k < length label → (first_label_byte ≤ byte_at label k) × (byte_at label k ≤ last_label_byte)
  pub first : byte_at label 0 ≢ space
  pub last : byte_at label (length label - 1) ≢ space

-- 7. Some label has a byte below 32 or above 126, or begins or ends with a space.
abbrev pub wrong_labels : ℕ → (ℕ → Job) → List ℕ → Bool
wrong_labels n jobs labels = any n (λ i. wrong_label (label_in jobs labels i))

-- 10. The lent buffer for the written sheet is too short.
abbrev pub too_short : ℕ → List ℕ → ℕ → Bool
too_short n labels room = ltb room (length labels + record_size * n + trailer_size)

-- 14. The job number is not below the count of jobs.
abbrev pub no_such_job : ℕ → ℕ → Bool
no_such_job n job = leb n job

-- ---- in order

-- 2, 3 and 19, of n and the cabinet
abbrev pub figure_checks : ℕ → Cabinet → List Check
figure_checks n C = (2, too_many_jobs n) ∷ (3, wrong_modules C.modules) ∷ (19, wrong_changeover C.changeover) ∷ []

-- 1, then those, then 4, of the length and the trailer
abbrev pub trailer_checks : List ℕ → List Check
trailer_checks s = (1, wrong_length s) ∷ (figure_checks (count_of s) (cabinet_of s) ++ ((4, wrong_offset s) ∷ []))

-- 5 to 7, of n jobs and the label bytes there are
abbrev pub content_checks : ℕ → (ℕ → Job) → List ℕ → List Check
content_checks n jobs labels = (5, some_faulty n jobs) ∷ (6, wrong_lengths n jobs labels) ∷ (7, wrong_labels n jobs labels) ∷ []
