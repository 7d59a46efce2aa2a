-- Figures that several crates share. Each stands here once; src/lib.rt has a constant for each.
use Rattle.std.specs.Prelude.{ℕ, ◌+◌, ◌-◌, ◌*◌}

-- jobs on a sheet, at most
abbrev pub most_jobs : ℕ
most_jobs = 20

-- modules of a cabinet, at most
abbrev pub most_modules : ℕ
most_modules = 64

-- minutes of a job, at most
abbrev pub most_minutes : ℕ
most_minutes = 1440

-- the minute by which every bus has arrived
abbrev pub last_arrival : ℕ
last_arrival = 1440

-- minutes that a module rests between two jobs, at most
abbrev pub longest_changeover : ℕ
longest_changeover = 30

-- the minute by which every list plan has ended: the last arrival, and then every job one after another with the longest rests between them
abbrev pub last_end : ℕ
last_end = last_arrival + (most_jobs * most_minutes + (most_jobs - 1) * longest_changeover)

-- no minute: no start, no end, no target
abbrev pub no_minute : ℕ
no_minute = 65535
