-- Writing depends on its first n jobs alone, so the gathered list is written as the lent one.
use mathlib.Core.Path.{◌≡◌, sym, ap, ap₂, ◌∙◌}
use mathlib.Core.Logic.{⊎_elim}
use mathlib.Core.Bool.{cond}
use mathlib.Core.List.{List, [], ◌∷◌, ◌++◌}
use Prim.Native.Nat.{ℕ, ◌≤◌, ◌<◌, min}
use native.Mathlib.Omega.{arith}
use lib.Dec.{eqb}
use lib.ListN.{length}
use borrow.Author.Tests.{lt-ltb}
use Rattle.counting.proofs.Tests.{less-or-not}
use Rattle.counting.proofs.Joins.{joined_same}
use Rattle.checking.specs.Checking.{Check, first_failing}
use Rattle.sheet_format.specs.declared.Job.{Job}
use Rattle.sheet_format.specs.Figures.{most_jobs}
use Rattle.sheet_format.specs.Format.{record_bytes, trailer_bytes, sheet_bytes, jobs_in, places}
use Rattle.sheet_format.specs.declared.Cabinet.{Cabinet}
use Rattle.sheet_format.specs.Checks.{figure_checks, too_short}
use Rattle.sheet_format.proofs.Lists.{job_in-place}
use Rattle.sheet_format.proofs.Cuts.{content_same}
use Rattle.sheet.specs.declared.Written.{Written}
use Rattle.sheet.specs.Write.{over, write_refusal, write_answer, write_leaves}
use Rattle.sheet.proofs.Writes.{refused_answer, refused_leaves}
use Rattle.sheet_list.specs.Gather.{gathered}

module _ (f g : ℕ → Job) (n : ℕ) (same : (i : ℕ) → i < n → f i ≡ g i) (labels : List ℕ) (C : Cabinet) where
  sheet_same : sheet_bytes f n labels C ≡ sheet_bytes g n labels C
  unfolding sheet_bytes
  sheet_same =
      ap (λ (x : List ℕ). labels ++ (x ++ trailer_bytes (length labels) n C))
      (joined_same n (λ i. record_bytes (f i)) (λ i. record_bytes (g i)) (λ i l. ap record_bytes (same i l)))

  refusal_same : (room : ℕ) → write_refusal f n labels C room ≡ write_refusal g n labels C room
  refusal_same room =
      ap
      (λ (c : List Check). first_failing (figure_checks n C ++ (c ++ ((10, too_short n labels room) ∷ []))))
      (content_same n f g same labels)

  -- the places past the first n are ignored
  pub answer_same : (out : List ℕ) → write_answer f n labels C out ≡ write_answer g n labels C out
  unfolding write_answer
  answer_same out =
      ap₂
      (λ (k : ℕ) (s : List ℕ). cond {A = Written} (eqb k 0) (record { refusal = 0; length = length s })
      (record { refusal = k; length = 0 }))
      (refusal_same (length out)) sheet_same

  pub leaves_same : (out : List ℕ) → write_leaves f n labels C out ≡ write_leaves g n labels C out
  unfolding write_leaves
  leaves_same out = ap₂ (λ (k : ℕ) (s : List ℕ). cond (eqb k 0) (over s out) out) (refusal_same (length out)) sheet_same

-- more jobs than there are places: refused before the jobs are looked at
refused-count : (jobs : ℕ → Job) (n : ℕ) (labels : List ℕ) (C : Cabinet) (room : ℕ) → most_jobs < n
    → 2 ≡ write_refusal jobs n labels C room
unfolding first_failing
refused-count jobs n labels C room l = rw (lt-ltb most_jobs n l)

module _ (js : List Job) (labels : List ℕ) (C : Cabinet) (out : List ℕ) where
  abbrev n : ℕ
  n = length js

  abbrev f : ℕ → Job
  f = jobs_in (gathered js)

  in_place : n ≤ most_jobs → (i : ℕ) → i < n → f i ≡ jobs_in js i
  in_place h i l =
      let e : min n most_jobs ≡ n = omega arith in
      ap (λ (m : ℕ). jobs_in (places m (jobs_in js)) i) e ∙ job_in-place n (jobs_in js) i l

  pub gathered_answer : write_answer f n labels C out ≡ write_answer (jobs_in js) n labels C out
  gathered_answer =
      ⊎_elim
      (λ (h : most_jobs < n).
      sym (refused_answer f n labels C out 2 (refused-count f n labels C (length out) h) (λ z. absurd (omega arith)))
      ∙ refused_answer (jobs_in js) n labels C out 2 (refused-count (jobs_in js) n labels C (length out) h) (λ z. absurd (omega arith)))
      (λ (h : n ≤ most_jobs). answer_same f (jobs_in js) n (in_place h) labels C out)
      (less-or-not most_jobs n)

  pub gathered_leaves : write_leaves f n labels C out ≡ write_leaves (jobs_in js) n labels C out
  gathered_leaves =
      ⊎_elim
      (λ (h : most_jobs < n).
      sym (refused_leaves f n labels C out 2 (refused-count f n labels C (length out) h) (λ z. absurd (omega arith)))
      ∙ refused_leaves (jobs_in js) n labels C out 2 (refused-count (jobs_in js) n labels C (length out) h) (λ z. absurd (omega arith)))
      (λ (h : n ≤ most_jobs). leaves_same f (jobs_in js) n (in_place h) labels C out)
      (less-or-not most_jobs n)
