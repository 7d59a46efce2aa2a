-- Which job may be taken out next, and whether some job would have to end before itself.
use Rattle.std.specs.Prelude.{◌≡◌, Bool, true, false, List, ℕ, ◌≤◌, ◌<◌}
use Rattle.std.specs.Int.Bits.{bit_and}
use Rattle.bits.specs.Bits.{bit}
use Rattle.schedule.specs.Plan.{Sheet, Circular}
use Rattle.tables.specs.declared.Jobs.{Jobs}
use Rattle.tables.specs.Tables.{earlier_at, count_of}

-- job j is left, and none of its earlier jobs is
pub record MayGo (t : Jobs) (left j : ℕ) : Type 0 where
  pub job : j < count_of t
  pub member : bit left j ≡ true
  pub after : bit_and (earlier_at t j) left ≡ 0

-- r is such a job, or the number of jobs where there is none
pub record NextOr (t : Jobs) (left r : ℕ) : Type 0 where
  pub low : r ≤ count_of t
  pub some : r < count_of t → MayGo t left r
  pub none : r ≡ count_of t → (j : ℕ) → ¬ MayGo t left j

-- r says whether some job would have to end before itself
pub record CircularOr (S : Sheet) (r : Bool) : Type 0 where
  pub yes : r ≡ true → Circular S
  pub no : r ≡ false → ¬ Circular S
