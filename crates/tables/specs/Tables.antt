-- What a job table says of a sheet's jobs.
use Rattle.std.specs.Prelude.{◌≡◌, ℕ, ◌+◌, ◌≤◌, ◌<◌, get_or}
use Rattle.figures.specs.Figures.{most_jobs, most_modules, most_minutes, last_arrival, longest_changeover}
use Rattle.bits.specs.Bits.{bit}
use Rattle.schedule.specs.Plan.{Sheet}
use Rattle.tables.specs.declared.Jobs.{Jobs}

-- the modules that job j needs, its minutes, its arrival, and its earlier jobs, a set
abbrev pub need_at : Jobs → ℕ → ℕ
need_at t j = get_or t.need j 0

abbrev pub minutes_at : Jobs → ℕ → ℕ
minutes_at t j = get_or t.minutes j 0

abbrev pub arrival_at : Jobs → ℕ → ℕ
arrival_at t j = get_or t.arrival j 0

abbrev pub earlier_at : Jobs → ℕ → ℕ
earlier_at t j = get_or t.earlier j 0

-- how many jobs there are, how many modules, and the changeover
abbrev pub count_of : Jobs → ℕ
count_of t = t.count

abbrev pub modules_of : Jobs → ℕ
modules_of t = t.modules

abbrev pub changeover_of : Jobs → ℕ
changeover_of t = t.changeover

-- how long job j keeps its modules from others: its minutes and the changeover; and how long a job does at most
abbrev pub kept_at : Jobs → ℕ → ℕ
kept_at t j = get_or t.kept j 0

abbrev pub most_kept : ℕ
most_kept = most_minutes + longest_changeover

-- the sheet of the table
abbrev pub sheet_of : Jobs → Sheet
sheet_of t = record {
  jobs = count_of t;
  modules = modules_of t;
  need = need_at t;
  minutes = minutes_at t;
  before = λ i j. bit (earlier_at t j) i;
  arrival = arrival_at t;
  rest = changeover_of t;
}

-- What the checks of reading and planning (2, 3, 19, 5 and 8) say of the table, and that jobs keep their modules as long as it says.
pub record Fit (t : Jobs) : Type 0 where
  pub few : count_of t ≤ most_jobs
  pub some : 0 < modules_of t
  pub most : modules_of t ≤ most_modules
  pub narrow : (j : ℕ) → j < count_of t → need_at t j ≤ modules_of t
  pub lasting : (j : ℕ) → j < count_of t → 0 < minutes_at t j
  pub short : (j : ℕ) → j < count_of t → minutes_at t j ≤ most_minutes
  pub arrived : (j : ℕ) → j < count_of t → arrival_at t j ≤ last_arrival
  pub rests : changeover_of t ≤ longest_changeover
  pub keeps : (j : ℕ) → j < count_of t → kept_at t j ≡ minutes_at t j + changeover_of t
