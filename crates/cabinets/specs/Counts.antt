-- F-5: the least module count with which some valid plan ends by a minute.
use Rattle.std.specs.Prelude.{◌≡◌, true, false, List, ℕ, ◌≤◌, ◌<◌}
use Rattle.figures.specs.Figures.{most_modules}
use Rattle.schedule.specs.Plan.{Sheet, Circular}
use Rattle.schedule.specs.ListPlan.{first_minute}
use Rattle.schedule.specs.Cabinets.{with_modules, ends_by}
use Rattle.tables.specs.declared.Jobs.{Jobs}
use Rattle.tables.specs.Tables.{sheet_of}
use Rattle.job_table.specs.Table.{FitJobs}
use Rattle.cabinets.specs.declared.Between.{Between}

-- "the least module count, 1 to 64, with which some valid plan ends by T"; 65 where there is none
unfoldable pub least_count : Sheet → ℕ → ℕ
least_count S t = first_minute (λ k. ends_by (with_modules S k) t) most_modules 1

-- what can be asked of a table: its jobs fit, and they can come in some order
pub record Askable (t : Jobs) : Type 0 where
  pub jobs : FitJobs t
  pub free : ¬ Circular (sheet_of t)

-- the least count is one of these: the highest of them serves, and none from 1 on below the lowest does
pub record Holds (S : Sheet) (t : ℕ) (r : Between) : Type 0 where
  pub some : 0 < r.low
  pub most : r.high ≤ most_modules
  pub ordered : r.low ≤ r.high
  pub enough : ends_by (with_modules S r.high) t ≡ true
  pub below : (k : ℕ) → 0 < k → k < r.low → ends_by (with_modules S k) t ≡ false
