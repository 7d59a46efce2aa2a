-- Jobs that must have their modules at a minute, as they start from a minute on and end by a target.
use Rattle.tables.specs.declared.Jobs.{Jobs}
use Rattle.tables.specs.declared.Prepared.{Prepared}
use Rattle.std.specs.Prelude.{List, ℕ, ◌+◌, ◌≤◌, ◌<◌, max, get_or}
use Rattle.counting.specs.Counting.{only, sum}
use Rattle.bits.specs.Bits.{bit}
use Rattle.schedule.specs.Bounds.{must_run}
use Rattle.tables.specs.Tables.{need_at, kept_at, count_of, modules_of}
use Rattle.tables.specs.declared.Part.{Part}
use Rattle.placement.specs.Profile.{held_of}

-- the modules that job k holds at minute m, where it must: it starts neither before minute l nor before its head, and its chain
-- ends by minute T
abbrev pub must_hold : Jobs → Prepared → ℕ → ℕ → ℕ → ℕ → ℕ
must_hold t prepared l T m k =
    only (must_run (max l (get_or prepared.heads k 0)) (get_or prepared.tails k 0) T m (kept_at t k)) (need_at t k)

-- at some minute the unplaced jobs that must have their modules have no room beside those that still hold theirs
pub record Overlapping (t : Jobs) (prepared : Prepared) (p : Part) (l T : ℕ) : Type 0 where
  pub minute : ℕ
  pub from : l ≤ minute
  pub over : modules_of t < sum (count_of t) (λ k. only (bit p.unplaced k) (must_hold t prepared l T minute k)) + held_of p minute
