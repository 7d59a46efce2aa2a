-- Weights of jobs, and the most that can stand on so many modules.
use Rattle.std.specs.Prelude.{◌≡◌, ◌≢◌, cond, List, ℕ, ◌+◌, ◌-◌, ◌*◌, ◌/◌, ◌%◌, ◌≤◌, ◌<◌, max, leb, eqb, length, get_or}
use Rattle.counting.specs.Counting.{only, sum, Rises, Holds}
use Rattle.figures.specs.Figures.{most_jobs, most_modules, no_minute}
use Rattle.bits.specs.Bits.{bit}
use Rattle.tables.specs.declared.Jobs.{Jobs}
use Rattle.tables.specs.Tables.{need_at, kept_at, most_kept, count_of, modules_of}
use Rattle.tables.specs.declared.Part.{Part}
use Rattle.placement.specs.Profile.{held_of}

-- ---- figures

-- how many weightings there are
abbrev pub weightings : ℕ
weightings = 5

-- numbers of modules, from 0 to the most that a cabinet has
abbrev pub widths : ℕ
widths = most_modules + 1

-- the places of the weightings side by side: of each job's worth, and of the most on each number of modules
abbrev pub worth_size : ℕ
worth_size = most_jobs * weightings

abbrev pub most_size : ℕ
most_size = widths * weightings

-- what a job weighs at most in a weighting, and what all jobs weigh, and all but one
abbrev pub heaviest : ℕ
heaviest = 36

abbrev pub all_weight : ℕ
all_weight = heaviest * most_jobs

abbrev pub few_weight : ℕ
few_weight = heaviest * (most_jobs - 1)

-- what a job's weight times the minutes for which it keeps its modules is at most, and that of all jobs
abbrev pub most_worth : ℕ
most_worth = most_kept * heaviest

abbrev pub all_worth : ℕ
all_worth = most_jobs * most_worth

-- what can stand up to a minute at most
abbrev pub most_room : ℕ
most_room = all_weight * no_minute

-- ---- the weightings

-- no set of jobs that fits on x modules weighs more than K x
abbrev pub Weighs : Jobs → (ℕ → ℕ) → (ℕ → ℕ) → Type 0
Weighs t y K = Holds (need_at t) (count_of t) (modules_of t) y K

-- a job that fills j of q + 2 equal parts of the cabinet weighs (q + 1) * j, and one that overruns them (q + 2) * j
unfoldable pub weight_in : ℕ → ℕ → ℕ → ℕ
weight_in modules q width = cond (eqb ((q + 2) * width % modules) 0) ((q + 1) * ((q + 2) * width / modules))
    ((q + 2) * ((q + 2) * width / modules))

-- the most that can stand on x modules with one job more
unfoldable pub most_with : List ℕ → ℕ → ℕ → ℕ → ℕ
most_with old width weight x = max (get_or old x 0) (only (leb width x) (weight + get_or old (x - width) 0))

-- n values are put in, each at its place, and what stands at other places is kept
pub record Put (place : ℕ → ℕ) (old new : List ℕ) (n : ℕ) (value : ℕ → ℕ) : Type 0 where
  pub size : length new ≡ length old
  pub kept : (p : ℕ) → ((k : ℕ) → k < n → p ≢ place k) → get_or new p 0 ≡ get_or old p 0
  pub each : (k : ℕ) → k < n → get_or new (place k) 0 ≡ value k
  pub small : (b : ℕ) → ((p : ℕ) → get_or old p 0 ≤ b) → ((k : ℕ) → k < n → value k ≤ b) → (p : ℕ) → get_or new p 0 ≤ b

-- a table of the most that the first n jobs are worth, none of them more than `each`, in each width up to `top`
pub record Knapsack (width : ℕ → ℕ) (n top each : ℕ) (y : ℕ → ℕ) (table : List ℕ) : Type 0 where
  pub holds : Holds width n top y (λ x. get_or table x 0)
  pub rises : Rises top (λ x. get_or table x 0)
  pub small : (p : ℕ) → get_or table p 0 ≤ each * n

-- the most of the first n jobs that can stand on each number of modules, in weighting q
abbrev pub MostOf : Jobs → ℕ → ℕ → List ℕ → Type 0
MostOf t n q table = Knapsack (need_at t) n (modules_of t) heaviest (λ k. weight_in (modules_of t) q (need_at t k)) table

-- weighting q: in `worth` each job's weight times the minutes for which it keeps its modules, in `most` the most that can stand on each
-- number of modules
pub record Weighting (t : Jobs) (worth most : List ℕ) (q : ℕ) : Type 0 where
  pub weight : ℕ → ℕ
  pub worth_is : (k : ℕ) → k < count_of t → get_or worth (k * weightings + q) 0 ≡ kept_at t k * weight k
  pub weighs : Weighs t weight (λ x. get_or most (x * weightings + q) 0)

-- so many weightings put in side by side
pub record WeightedTo (t : Jobs) (worth most : List ℕ) (count : ℕ) : Type 0 where
  pub worth-length : length worth ≡ worth_size
  pub most-length : length most ≡ most_size
  pub worth_small : (p : ℕ) → get_or worth p 0 ≤ most_worth
  pub most_small : (p : ℕ) → get_or most p 0 ≤ all_weight
  pub each : (q : ℕ) → q < count → Weighting t worth most q

-- none of the places is too large
abbrev pub WorthSmall : List ℕ → Type 0
WorthSmall worth = (p : ℕ) → p < worth_size → get_or worth p 0 ≤ most_worth

abbrev pub MostSmall : List ℕ → Type 0
MostSmall most = (p : ℕ) → p < most_size → get_or most p 0 ≤ all_weight

-- all weightings side by side; what stands behind their places is not spoken of
pub record Weighted (t : Jobs) (worth most : List ℕ) : Type 0 where
  pub worth_small : WorthSmall worth
  pub most_small : MostSmall most
  pub each : (q : ℕ) → q < weightings → Weighting t worth most q

-- ---- the test by weights

-- what can stand, from minute l up to minute C, on the modules that are free
unfoldable pub room_for : (ℕ → ℕ) → ℕ → Part → ℕ → ℕ → ℕ
room_for most modules p l C = sum C (λ m. only (leb l m) (most (modules - held_of p m)))

-- the unplaced jobs outweigh what can stand on the modules that are free from minute l up to minute C, by which all are given back
pub record Outweighed (t : Jobs) (p : Part) (l C : ℕ) : Type 0 where
  pub weight : ℕ → ℕ
  pub most : ℕ → ℕ
  pub weighs : Weighs t weight most
  pub over : sum C (λ m. only (leb l m) (most (modules_of t - held_of p m)))
      < sum (count_of t) (λ k. only (bit p.unplaced k) (kept_at t k * weight k))
