-- The job table of a reading.
use Rattle.std.specs.Prelude.{◌≡◌, ℕ, ◌+◌, ◌≤◌, ◌<◌}
use Rattle.figures.specs.Figures.{most_jobs, most_minutes, last_arrival, longest_changeover}
use Rattle.tables.specs.declared.Jobs.{Jobs}
use Rattle.tables.specs.Tables.{need_at, minutes_at, arrival_at, earlier_at, kept_at, count_of, modules_of, changeover_of}
use Rattle.sheet_format.specs.Format.{jobs_in}
use Rattle.sheet.specs.declared.Reading.{Reading}

-- the table of the same jobs for a cabinet of k modules
abbrev pub for_cabinet : Jobs → ℕ → Jobs
for_cabinet t k = record {
  need = t.need;
  minutes = t.minutes;
  arrival = t.arrival;
  earlier = t.earlier;
  kept = t.kept;
  count = t.count;
  modules = k;
  changeover = t.changeover;
}

-- each job's minutes and the changeover have a sum of 16 bits
abbrev pub SumsFit : Reading → Type 0
SumsFit r = (j : ℕ) → j < r.count → (jobs_in r.jobs j).minutes + r.changeover < 65536

-- What the checks of reading (2, 19 and 5) say of the jobs of a table, whatever the cabinet, and that they keep their modules as long as it says.
pub record FitJobs (t : Jobs) : Type 0 where
  pub few : count_of t ≤ most_jobs
  pub lasting : (j : ℕ) → j < count_of t → 0 < minutes_at t j
  pub short : (j : ℕ) → j < count_of t → minutes_at t j ≤ most_minutes
  pub arrived : (j : ℕ) → j < count_of t → arrival_at t j ≤ last_arrival
  pub rests : changeover_of t ≤ longest_changeover
  pub keeps : (j : ℕ) → j < count_of t → kept_at t j ≡ minutes_at t j + changeover_of t

-- The table says of the jobs what the reading says.
pub record TableOf (r : Reading) (t : Jobs) : Type 0 where
  pub count : count_of t ≡ r.count
  pub modules : modules_of t ≡ r.modules
  pub changeover : changeover_of t ≡ r.changeover
  pub need : (j : ℕ) → j < r.count → need_at t j ≡ (jobs_in r.jobs j).modules
  pub minutes : (j : ℕ) → j < r.count → minutes_at t j ≡ (jobs_in r.jobs j).minutes
  pub arrival : (j : ℕ) → j < r.count → arrival_at t j ≡ (jobs_in r.jobs j).arrival
  pub earlier : (j : ℕ) → j < r.count → earlier_at t j ≡ (jobs_in r.jobs j).earlier
  pub kept : (j : ℕ) → j < r.count → kept_at t j ≡ (jobs_in r.jobs j).minutes + r.changeover
