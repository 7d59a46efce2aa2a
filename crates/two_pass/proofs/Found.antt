-- What the pass over the records found, of the list of jobs that it gives.
use mathlib.Core.Path.{◌≡◌, sym, ap, ◌∙◌}
use mathlib.Core.Bool.{Bool}
use mathlib.Core.List.{List}
use Prim.Native.Nat.{ℕ, ◌<◌}
use native.Mathlib.Omega.{arith}
use lib.ListN.{take}
use Rattle.checking.specs.Checking.{first_failing}
use Rattle.sheet_format.specs.declared.Job.{Job}
use Rattle.sheet_format.specs.Format.{places, jobs_in, job_from, job_of, labels_of, label_lengths, offset_of, count_of}
use Rattle.sheet_format.specs.Checks.{some_faulty, content_checks}
use Rattle.sheet_format.proofs.Lists.{job_in-place}
use Rattle.sheet_format.proofs.Cuts.{faulty_same, lengths_same, content_same}
use Rattle.sheet.proofs.Answers.{content_is}

module _ (s : List ℕ) (n offset : ℕ) (jobs : List Job) (ej : jobs ≡ places n (job_from s offset)) where
  in_place : (i : ℕ) → i < n → jobs_in jobs i ≡ job_from s offset i
  in_place i l = ap (λ (js : List Job). jobs_in js i) ej ∙ job_in-place n (job_from s offset) i l

  pub found-faulty : (found : Bool) → found ≡ some_faulty n (job_from s offset) → found ≡ some_faulty n (jobs_in jobs)
  found-faulty found e = e ∙ sym (faulty_same n (jobs_in jobs) (job_from s offset) in_place)

  pub found_total : (total : ℕ) → total ≡ label_lengths n (job_from s offset) → total ≡ label_lengths n (jobs_in jobs)
  found_total total e = e ∙ sym (lengths_same n (jobs_in jobs) (job_from s offset) in_place n (omega arith))

  -- the checks 5 to 7
  pub content_found : (k : ℕ) → n ≡ count_of s → offset ≡ offset_of s → k ≡ first_failing (content_checks n (jobs_in jobs) (take offset s))
      → k ≡ first_failing (content_checks (count_of s) (job_of s) (labels_of s))
  content_found k en eo ek =
      content_is s n offset k en eo (ek ∙ ap first_failing (content_same n (jobs_in jobs) (job_from s offset) in_place (take offset s)))
