-- What reading answers (S-12: the job records in order, n, N and the changeover).
use Rattle.std.specs.Prelude.{◌≡◌, cond, List, ◌++◌, ℕ, eqb, Result, IfOk}
use Rattle.checking.specs.Checking.{Check, first_failing}
use Rattle.checking.specs.Refusals.{refusal_number}
use Rattle.checking.specs.declared.Refusal.{Refusal}
use Rattle.sheet_format.specs.declared.Job.{Job}
use Rattle.sheet.specs.declared.Reading.{Reading}
use Rattle.sheet_format.specs.Format.{no_jobs, places, job_of, labels_of, count_of, cabinet_of}
use Rattle.sheet_format.specs.declared.Cabinet.{Cabinet}
use Rattle.sheet_format.specs.Checks.{trailer_checks, content_checks}

-- reading checks 1, 2, 3, 19 and 4 to 7
abbrev pub read_checks : List ℕ → List Check
read_checks s = trailer_checks s ++ content_checks (count_of s) (job_of s) (labels_of s)

abbrev pub read_refusal : List ℕ → ℕ
read_refusal s = first_failing (read_checks s)

-- answered: the jobs in order, n, N and the changeover
abbrev pub answered : ℕ → (ℕ → Job) → Cabinet → Reading
answered n jobs C = record { refusal = 0; jobs = places n jobs; count = n; modules = C.modules; changeover = C.changeover }

-- refused: the number, and every other figure 0
abbrev pub refused : ℕ → Reading
refused k = record { refusal = k; jobs = no_jobs; count = 0; modules = 0; changeover = 0 }

unfoldable pub reading : List ℕ → Reading
reading s = cond (eqb (read_refusal s) 0) (answered (count_of s) (job_of s) (cabinet_of s)) (refused (read_refusal s))

-- r is the first refusal of the bytes s, or what reading answers of them
pub record ReadingOf (s : List ℕ) (r : Result Reading Refusal) : Type 0 where
  pub refusal : refusal_number r ≡ read_refusal s
  pub answer : IfOk r (λ x. x ≡ reading s)
