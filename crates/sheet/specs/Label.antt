-- What the label calls answer (S-13: a job's label is that very part of the lent sheet).
use Rattle.std.specs.Prelude.{cond, not, ◌||◌, List, [], ◌∷◌, ◌++◌, ℕ, eqb, length, take, drop}
use Rattle.checking.specs.Checking.{Check, first_failing}
use Rattle.sheet_format.specs.Figures.{most_jobs}
use Rattle.sheet_format.specs.Format.{label_length, label_lengths, jobs_in, job_of, count_of}
use Rattle.sheet_format.specs.Checks.{no_such_job}
use Rattle.sheet.specs.declared.LabelPlace.{LabelPlace}
use Rattle.sheet.specs.declared.Reading.{Reading}
use Rattle.sheet.specs.Read.{read_checks}

-- labels check as reading does, then 14
abbrev pub label_checks : List ℕ → ℕ → List Check
label_checks s job = read_checks s ++ ((14, no_such_job (count_of s) job) ∷ [])

abbrev pub label_refusal : List ℕ → ℕ → ℕ
label_refusal s job = first_failing (label_checks s job)

-- where the label begins: the lengths of the labels before it, summed
abbrev pub label_start : List ℕ → ℕ → ℕ
label_start s job = label_lengths job (job_of s)

-- the label's bytes; a refused call shows an empty part
unfoldable pub label_of : List ℕ → ℕ → List ℕ
label_of s job =
    cond (eqb (label_refusal s job) 0) (take (label_length (job_of s job)) (drop (label_start s job) s)) []

-- how far into the lent sheet the part begins; an empty part is at its front
unfoldable pub label_at : List ℕ → ℕ → ℕ
label_at s job = cond (eqb (label_refusal s job) 0) (label_start s job) 0

-- where the part lies in the lent sheet; refused: the number, and every other figure 0
unfoldable pub label_place : List ℕ → ℕ → LabelPlace
label_place s job = record { refusal = label_refusal s job; offset = label_at s job; length = length (label_of s job) }

-- ---- from what reading answered, whatever it is

-- the reading's own refusal, then 14; a reading has places for 20 jobs, whatever its count says
abbrev pub place_checks : Reading → ℕ → List Check
place_checks r job = (r.refusal, not (eqb r.refusal 0)) ∷ (14, no_such_job r.count job || no_such_job most_jobs job) ∷ []

-- where the label lies in the sheet that was read (`place_in-reading`); refused: the number, and every other figure 0
unfoldable pub place_in : Reading → ℕ → LabelPlace
place_in r job =
    cond (eqb (first_failing (place_checks r job)) 0)
    (record { refusal = 0; offset = label_lengths job (jobs_in r.jobs); length = label_length (jobs_in r.jobs job) })
    (record { refusal = first_failing (place_checks r job); offset = 0; length = 0 })
