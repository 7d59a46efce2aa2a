-- The figures of a sheet that reads: within their ranges, and in a table.
use mathlib.Core.Path.{◌≡◌, sym, ap, subst, ◌∙◌}
use mathlib.Core.Bool.{false}
use mathlib.Core.List.{List}
use Prim.Native.Nat.{ℕ, ◌≤◌, ◌<◌}
use native.Mathlib.Omega.{arith}
use lib.ListN.{length}
use Rattle.figures.specs.Figures.{most_jobs, most_modules, longest_changeover}
use Rattle.bits.specs.Bits.{bit}
use Rattle.schedule.specs.Plan.{over_wide, Lasting, Needing}
use Rattle.schedule.proofs.Existence.{narrow_says}
use Rattle.tables.specs.declared.Jobs.{Jobs}
use Rattle.tables.specs.Tables as tables
use Rattle.tables.specs.Tables.{sheet_of, Fit}
use Rattle.sheet_format.specs.Format.{jobs_in, count_of, job_of}
use Rattle.sheet_format.proofs.Bounds.{Legal, legal}
use Rattle.sheet_format.proofs.Lists.{length-places, job_in-place}
use Rattle.sheet.specs.declared.Reading.{Reading}
use Rattle.sheet.specs.Read.{read_refusal, reading}
use Rattle.sheet.proofs.Answers.{read_answer, reads}
use Rattle.job_table.specs.Table.{SumsFit, FitJobs, TableOf}
use Rattle.job_table.proofs.Cabinets.{fit_of}
use Rattle.planable.specs.Planable.{sheet_in}
use Rattle.schedule.proofs.Same.{SameJobs, wide_same}

module _ (s : List ℕ) (e : read_refusal s ≡ 0) where
  abbrev r : Reading
  r = reading s

  pub few_read : r.count ≤ most_jobs
  few_read = subst (λ (r : Reading). r.count ≤ most_jobs) (sym (read_answer s e)) (reads s e).trailer.figures.few

  pub some_read : 0 < r.modules
  some_read = subst (λ (r : Reading). 0 < r.modules) (sym (read_answer s e)) (reads s e).trailer.figures.some

  pub most_read : r.modules ≤ most_modules
  most_read = subst (λ (r : Reading). r.modules ≤ most_modules) (sym (read_answer s e)) (reads s e).trailer.figures.most

  pub rests_read : r.changeover ≤ longest_changeover
  rests_read = subst (λ (r : Reading). r.changeover ≤ longest_changeover) (sym (read_answer s e)) (reads s e).trailer.figures.rests

  pub places_read : length r.jobs ≡ most_jobs
  places_read = subst (λ (r : Reading). length r.jobs ≡ most_jobs) (sym (read_answer s e))
      (length-places (count_of s) (job_of s) (reads s e).trailer.figures.few)

  pub job_read : (j : ℕ) → j < r.count → Legal (count_of s) (jobs_in r.jobs j)
  job_read = subst (λ (r : Reading). (j : ℕ) → j < r.count → Legal (count_of s) (jobs_in r.jobs j)) (sym (read_answer s e))
      (λ j l. subst (Legal (count_of s)) (sym (job_in-place (count_of s) (job_of s) j l))
      (legal (count_of s) (job_of s j) ((reads s e).sound j l)))

  pub lasting_read : Lasting (sheet_in s)
  lasting_read j l = (job_read j l).minutes-some

  pub needing_read : Needing (sheet_in s)
  needing_read j l = (job_read j l).modules-some

  pub sums_read : SumsFit r
  sums_read j l = omega (arith, (job_read j l).minutes_most, rests_read)

  -- ---- in a table

  module _ (t : Jobs) (h : TableOf r t) where
    pub same_jobs : SameJobs (sheet_of t) (sheet_in s)
    same_jobs = record {
      jobs = h.count;
      modules = h.modules;
      rest = h.changeover;
      need = λ j l. h.need j (omega (arith, h.count));
      minutes = λ j l. h.minutes j (omega (arith, h.count));
      before = λ i j k l. ap (λ (x : ℕ). bit x i) (h.earlier j (omega (arith, h.count)));
      arrival = λ j l. h.arrival j (omega (arith, h.count));
    }

    pub jobs_fit : FitJobs t
    jobs_fit = record {
      few = omega (arith, few_read, h.count);
      lasting = λ j l. omega (arith, same_jobs.minutes j l, (job_read j (low l)).minutes-some);
      short = λ j l. omega (arith, same_jobs.minutes j l, (job_read j (low l)).minutes_most);
      arrived = λ j l. omega (arith, same_jobs.arrival j l, (job_read j (low l)).arrival);
      rests = omega (arith, rests_read, h.changeover);
      keeps = λ j l. omega (arith, same_jobs.minutes j l, h.kept j (low l), h.changeover);
    }
      where
        low : {j : ℕ} → j < tables.count_of t → j < r.count
        low l = omega (arith, l, h.count)

    pub fit-table : over_wide (sheet_in s) ≡ false → Fit t
    fit-table w =
        fit_of t jobs_fit (omega (arith, some_read, h.modules)) (omega (arith, most_read, h.modules))
        (narrow_says (sheet_of t) (wide_same same_jobs ∙ w))
