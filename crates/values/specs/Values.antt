-- Lanes: a job of weight x fills x lanes side by side, as many lanes are open as weight can stand on the free modules, and a lane serves
-- jobs one after another. Each job has a value, and what a lane can serve in so many minutes is at most its reach.
use Rattle.std.specs.Prelude.{◌≡◌, Bool, List, ℕ, ◌+◌, ◌-◌, ◌*◌, ◌/◌, ◌≤◌, ◌<◌, length, get_or}
use Rattle.counting.specs.Counting.{only, sum, Rises}
use Rattle.figures.specs.Figures.{most_jobs, most_modules}
use Rattle.tables.specs.declared.Jobs.{Jobs}
use Rattle.tables.specs.Tables.{kept_at, count_of, modules_of}
use Rattle.weights.specs.Weights.{widths, all_weight, Weighs, Knapsack}

-- ---- figures

-- for how many steps the reach of a lane is kept
abbrev pub steps : ℕ
steps = 1024

-- the places of the tables side by side, and how many there are
abbrev pub most_place : ℕ
most_place = steps

abbrev pub worth_place : ℕ
worth_place = most_place + widths

abbrev pub step_place : ℕ
step_place = worth_place + most_jobs

abbrev pub lanes_size : ℕ
lanes_size = step_place + 1

-- what a job's value is at most, and those of all jobs, and of all but one
abbrev pub most_value : ℕ
most_value = 255

abbrev pub all_value : ℕ
all_value = most_value * most_jobs

abbrev pub few_value : ℕ
few_value = most_value * (most_jobs - 1)

-- a job's weight times its value, at most
abbrev pub most_lane_worth : ℕ
most_lane_worth = most_modules * most_value

-- the products of two numbers of each job, summed up, at most
abbrev pub most_total : ℕ
most_total = 4294967296 * most_jobs

-- rounds in which values are found, at most
abbrev pub most_rounds : ℕ
most_rounds = 100

-- ---- the parts of the table

-- the most value that a lane can serve in x steps
abbrev pub reach_at : List ℕ → ℕ → ℕ
reach_at lanes x = get_or lanes x 0

-- how many lanes are open on x free modules: the most weight that can stand on them
abbrev pub most_at : List ℕ → ℕ → ℕ
most_at lanes x = get_or lanes (most_place + x) 0

-- a job's weight times its value
abbrev pub worth_at : List ℕ → ℕ → ℕ
worth_at lanes k = get_or lanes (worth_place + k) 0

-- how many minutes a step has
abbrev pub step_of : List ℕ → ℕ
step_of lanes = get_or lanes step_place 0

-- ---- what they stand for

-- no set of jobs that keep a module for fewer than `size` steps together, each counted in whole steps, has more value than Z of them
abbrev pub Serves : Jobs → ℕ → ℕ → (ℕ → ℕ) → (ℕ → ℕ) → Type 0
Serves t step size value Z = (X : ℕ → Bool) (x : ℕ) → x < size
    → sum (count_of t) (λ k. only (X k) (kept_at t k / step)) ≤ x → sum (count_of t) (λ k. only (X k) (value k)) ≤ Z x

-- the table of some weights and values; what stands behind its places is not spoken of
pub record Laned (t : Jobs) (lanes : List ℕ) : Type 0 where
  pub weight : ℕ → ℕ
  pub value : ℕ → ℕ
  pub worth_is : (k : ℕ) → k < count_of t → worth_at lanes k ≡ weight k * value k
  pub weighs : Weighs t weight (most_at lanes)
  pub most-rises : Rises (modules_of t) (most_at lanes)
  pub step-some : 0 < step_of lanes
  pub serves : Serves t (step_of lanes) steps value (reach_at lanes)
  pub reach-rises : (a b : ℕ) → a ≤ b → b < steps → reach_at lanes a ≤ reach_at lanes b
  pub reach-none : reach_at lanes 0 ≡ 0
  pub worth_small : (k : ℕ) → k < most_jobs → worth_at lanes k ≤ most_lane_worth
  pub most_small : (x : ℕ) → x < widths → most_at lanes x ≤ all_weight
  pub reach_small : (x : ℕ) → x < steps → reach_at lanes x ≤ all_value

-- ---- what it is made of

-- a weight for each job, and the most weight that can stand on each number of modules
pub record Chosen (t : Jobs) (weight most : List ℕ) : Type 0 where
  pub weighs : Weighs t (λ k. get_or weight k 0) (λ x. get_or most x 0)
  pub rises : Rises (modules_of t) (λ x. get_or most x 0)
  pub light : (k : ℕ) → get_or weight k 0 ≤ most_modules
  pub small : (x : ℕ) → get_or most x 0 ≤ all_weight

-- a value for each job, and none for a job that keeps its modules for less than a step
pub record Valued (t : Jobs) (step : ℕ) (value : List ℕ) : Type 0 where
  pub small : (k : ℕ) → get_or value k 0 ≤ most_value
  pub short : (k : ℕ) → kept_at t k < step → get_or value k 0 ≡ 0

-- the most value of the first n jobs that a lane can serve in each number of steps
pub record Reached (t : Jobs) (value : List ℕ) (n step : ℕ) (reach : List ℕ) : Type 0 where
  pub size : length reach ≡ steps
  pub table : Knapsack (λ k. kept_at t k / step) n (steps - 1) most_value (λ k. get_or value k 0) reach
  pub none : get_or reach 0 0 ≡ 0

-- the parts of the table side by side
pub record Joined (reach most weight value : List ℕ) (step : ℕ) (lanes : List ℕ) : Type 0 where
  pub reach_is : (x : ℕ) → x < steps → reach_at lanes x ≡ get_or reach x 0
  pub most_is : (x : ℕ) → x < widths → most_at lanes x ≡ get_or most x 0
  pub worth_is : (k : ℕ) → k < most_jobs → worth_at lanes k ≡ get_or weight k 0 * get_or value k 0
  pub step_is : step_of lanes ≡ step
