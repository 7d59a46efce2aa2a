-- What is made once of arrivals and earlier jobs.
use Rattle.std.specs.Prelude.{◌≡◌, List, ℕ, ◌+◌, ◌≤◌, ◌<◌, get_or}
use Rattle.figures.specs.Figures.{last_end}
use Rattle.tables.specs.declared.Jobs.{Jobs}
use Rattle.tables.specs.Tables.{sheet_of, minutes_at, count_of}
use Rattle.schedule.specs.Bounds.{head}

-- the heads of all jobs, by chains of at most k jobs
pub record HeadsOf (t : Jobs) (heads : List ℕ) (k : ℕ) : Type 0 where
  pub each : (j : ℕ) → j < count_of t → get_or heads j 0 ≡ head (sheet_of t) k j

-- a job that starts at its head ends by the last minute at which a plan can end
abbrev pub AllShort : Jobs → List ℕ → Type 0
AllShort t heads = (i : ℕ) → i < count_of t → get_or heads i 0 + minutes_at t i ≤ last_end
