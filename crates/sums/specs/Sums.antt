-- Two sums of the minutes for which some of the jobs keep their modules, and the times at which a plan can end.
use Rattle.std.specs.Prelude.{◌≡◌, Bool, List, ℕ, ◌+◌, ◌-◌, ◌≤◌, ◌<◌, leb, get_or}
use Rattle.std.specs.Int.{◌∣◌}
use Rattle.counting.specs.Counting.{only, largest}
use Rattle.schedule.specs.ListPlan.{Order}
use Rattle.schedule.specs.TieRule.{end_of}
use Rattle.tables.specs.declared.Jobs.{Jobs}
use Rattle.tables.specs.Tables.{minutes_at, arrival_at, count_of, changeover_of, sheet_of}
pub use Rattle.choices.specs.Choices.{together}
use Rattle.choices.specs.Choices.{longest}

-- the largest that one of the first `lows` sums and one of the first `highs` others give together, not above x
unfoldable pub longest_pair : List ℕ → ℕ → List ℕ → ℕ → ℕ → ℕ
longest_pair low lows high highs x =
    largest lows (λ i. only (leb (get_or low i 0) x) (get_or low i 0 + longest high highs (x - get_or low i 0)))

-- ---- targets between two minutes at which an order can end

-- r is not above x, and no order ends between them
pub record Rounded (t : Jobs) (x r : ℕ) : Type 0 where
  pub below : r ≤ x
  pub none_between : (o : List ℕ) → Order (sheet_of t) o → end_of (sheet_of t) o ≤ x → end_of (sheet_of t) o ≤ r

-- the first n jobs are here from minute 0 on
abbrev pub AllHere : Jobs → ℕ → Type 0
AllHere t n = (j : ℕ) → j < n → arrival_at t j ≡ 0

-- g divides the changeover, and the minutes and the arrivals of the first n jobs
pub record Step (t : Jobs) (n g : ℕ) : Type 0 where
  pub rests : g ∣ changeover_of t
  pub minutes : (j : ℕ) → j < n → g ∣ minutes_at t j
  pub arrivals : (j : ℕ) → j < n → g ∣ arrival_at t j

-- each sum of the minutes for which jobs keep their modules that is not above x is not above r
pub record RoundedToSum (t : Jobs) (x r : ℕ) : Type 0 where
  pub below : r ≤ x
  pub none_between : (X : ℕ → Bool) → together t (count_of t) X ≤ x → together t (count_of t) X ≤ r
