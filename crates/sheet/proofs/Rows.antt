-- A sheet's row in a table: its bytes, and the figures that reading and the label call give of it.
use mathlib.Core.List.{List, [], ◌∷◌, ◌++◌}
use Prim.Native.Nat.{ℕ, ◌+◌}
use Rattle.counting.specs.Counting.{joined}
use Rattle.sheet_format.specs.declared.Job.{Job}
use Rattle.sheet_format.specs.Format.{jobs_in}
use Rattle.sheet.specs.declared.Reading.{Reading}
use Rattle.sheet.specs.Read.{reading}
use Rattle.sheet.specs.Label.{label_refusal, label_of}

pub record Row : Type 0 where
  pub sheet : List ℕ
  pub figures : List ℕ
  pub shown : List ℕ

abbrev pub row : List ℕ → List ℕ → List ℕ → Row
row s figures shown = record { sheet = s; figures = figures; shown = shown }

abbrev job_figures : Job → List ℕ
job_figures j = j.label_len ∷ j.modules ∷ j.minutes ∷ j.earlier ∷ j.departure ∷ j.arrival ∷ []

-- the refusal, n, N, the changeover and the figures of the jobs
abbrev read_figures : Reading → List ℕ
read_figures r = r.refusal ∷ r.count ∷ r.modules ∷ r.changeover ∷ joined r.count (λ i. job_figures (jobs_in r.jobs i))

-- for each job and one number past them, the number that the label call gives and the label that it shows
abbrev shown_labels : List ℕ → List ℕ
shown_labels s = joined ((reading s).count + 1) (λ i. label_refusal s i ∷ label_of s i)

-- what the definitions give of the rows' sheets, and what the rows say
unfoldable pub found : List Row → List (List ℕ)
found [] = []
found (r ∷ l) = (read_figures (reading r.sheet) ++ shown_labels r.sheet) ∷ found l

unfoldable pub told : List Row → List (List ℕ)
told [] = []
told (r ∷ l) = (r.figures ++ r.shown) ∷ told l
