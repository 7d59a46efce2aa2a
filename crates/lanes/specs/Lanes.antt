-- What the lanes that are open from a minute on serve up to the minute by which all modules are given back, and when the jobs that are left
-- have more value.
use Rattle.std.specs.Prelude.{◌≡◌, List, ℕ, ◌-◌, ◌*◌, ◌/◌, ◌≤◌, ◌<◌, leb}
use Rattle.counting.specs.Counting.{only, sum, Rises, Holds}
use Rattle.figures.specs.Figures.{most_modules}
use Rattle.bits.specs.Bits.{bit}
use Rattle.schedule.specs.Bounds.{gain}
use Rattle.tables.specs.declared.Jobs.{Jobs}
use Rattle.tables.specs.Tables.{kept_at, count_of, modules_of}
use Rattle.tables.specs.declared.Part.{Part}
use Rattle.placement.specs.Profile.{held_of, ProfileOf}
use Rattle.weights.specs.Weights.{all_weight, Weighs}
use Rattle.values.specs.Values.{steps, reach_at, step_of}

-- the most value that a lane can serve in x minutes
abbrev pub reach_in : List ℕ → ℕ → ℕ
reach_in lanes x = reach_at lanes (x / step_of lanes)

-- what the lanes serve from minute l up to minute C: as many are open as weight can stand on the modules that are free
unfoldable pub served_on : (ℕ → ℕ) → (ℕ → ℕ) → ℕ → Part → ℕ → ℕ → ℕ
served_on most reach modules p l C = sum C (λ m. only (leb l m) (most (modules - held_of p m) * gain reach C m))

-- what a lane reaches at most, and what all serve
abbrev pub most_reach : ℕ
most_reach = 32000

abbrev pub most_served : ℕ
most_served = all_weight * most_reach

-- the table reaches to minute C
abbrev pub ReachesTo : List ℕ → ℕ → Type 0
ReachesTo lanes C = (0 < step_of lanes) × (C / step_of lanes < steps)

-- the unplaced jobs have more value than lanes for some weights and values can serve
pub record Overfull (t : Jobs) (p : Part) (l C : ℕ) : Type 0 where
  pub weight : ℕ → ℕ
  pub value : ℕ → ℕ
  pub most : ℕ → ℕ
  pub reach : ℕ → ℕ
  pub weighs : Weighs t weight most
  pub most-rises : Rises (modules_of t) most
  pub lasts : Holds (kept_at t) (count_of t) C value reach
  pub reach-rises : Rises C reach
  pub reach-none : reach 0 ≡ 0
  pub over : served_on most reach (modules_of t) p l C < sum (count_of t) (λ k. only (bit p.unplaced k) (weight k * value k))

-- what the walk over the ends asks of its figures
pub record Serving (most reach : ℕ → ℕ) (p : Part) (gone free modules l C : ℕ) : Type 0 where
  pub most_small : (x : ℕ) → x ≤ most_modules → most x ≤ all_weight
  pub reach-rises : Rises C reach
  pub reach-none : reach 0 ≡ 0
  pub reach_small : (x : ℕ) → x ≤ C → reach x ≤ most_reach
  pub profile : ProfileOf p gone free modules l
  pub narrow : modules ≤ most_modules
  pub before : l ≤ C
