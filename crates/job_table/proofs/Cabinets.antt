-- The same jobs in a table for another cabinet.
use mathlib.Core.Path.{◌≡◌, refl}
use mathlib.Core.Bool.{false}
use Prim.Native.Nat.{ℕ, ◌≤◌, ◌<◌}
use Rattle.figures.specs.Figures.{most_modules}
use Rattle.schedule.specs.Plan.{Narrow, over_wide}
use Rattle.schedule.specs.Cabinets.{with_modules}
use Rattle.schedule.proofs.Existence.{narrow_says}
use Rattle.schedule.proofs.Same.{SameJobs}
use Rattle.tables.specs.declared.Jobs.{Jobs}
use Rattle.tables.specs.Tables.{sheet_of, modules_of, Fit}
use Rattle.job_table.specs.Table.{for_cabinet, FitJobs}

-- jobs that fit, in a cabinet of 1 to 64 modules that no job is too wide for
pub fit_of : (t : Jobs) → FitJobs t → 0 < modules_of t → modules_of t ≤ most_modules → Narrow (sheet_of t) → Fit t
fit_of t h some most narrow = record {
  few = h.few;
  some = some;
  most = most;
  narrow = narrow;
  lasting = h.lasting;
  short = h.short;
  arrived = h.arrived;
  rests = h.rests;
  keeps = h.keeps;
}

module _ (t : Jobs) (h : FitJobs t) (k : ℕ) where
  abbrev u : Jobs
  u = for_cabinet t k

  pub modules_for : modules_of u ≡ k
  modules_for = refl

  -- the sheet of the table is the sheet in that cabinet
  pub same_for : SameJobs (sheet_of u) (with_modules (sheet_of t) k)
  same_for = record {
    jobs = refl;
    modules = refl;
    rest = refl;
    need = λ j l. refl;
    minutes = λ j l. refl;
    before = λ i j k l. refl;
    arrival = λ j l. refl;
  }

  -- and its jobs fit as before
  pub jobs_for : FitJobs u
  jobs_for = record { few = h.few; lasting = h.lasting; short = h.short; arrived = h.arrived; rests = h.rests; keeps = h.keeps }

  pub fit_for : 0 < k → k ≤ most_modules → over_wide (sheet_of u) ≡ false → Fit u
  fit_for some most w = fit_of u jobs_for some most (narrow_says (sheet_of u) w)
