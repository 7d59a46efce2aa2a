-- Orders with their ends: that of a list plan, and those that random moves lead to.
use Rattle.std.specs.Prelude.{◌≡◌, false, not, List, ℕ, ◌+◌, ◌%◌, ◌≤◌, ◌<◌, ltb, length, get_or, take, replicate}
use Rattle.counting.specs.Counting.{largest}
use Rattle.figures.specs.Figures.{most_jobs, no_minute}
use Rattle.schedule.specs.Plan.{Sheet}
use Rattle.schedule.specs.ListPlan.{Order}
use Rattle.schedule.specs.TieRule.{end_of}
use Rattle.tables.specs.declared.Jobs.{Jobs}
use Rattle.tables.specs.Tables.{count_of}
use Rattle.tables.specs.declared.Part.{Part}
use Rattle.candidates.specs.Candidates.{Known, JobStart}
use Rattle.listing.specs.declared.Found.{Found}

-- ---- the order of a part-plan

-- the first `count` numbers of an order, a byte for each
pub record BytesOf (order : List ℕ) (count : ℕ) (r : List ℕ) : Type 0 where
  pub size : length r ≡ most_jobs
  pub each : (k : ℕ) → k < count → get_or r k 0 ≡ get_or order k 0 % 256

-- the order of a part-plan that has placed every job, where it ends by the target; of its numbers all are put into bytes, what stands behind
-- the placed jobs too
pub record Finished (p : Part) (count target : ℕ) (r : Found) : Type 0 where
  pub order : BytesOf p.order most_jobs r.order
  pub end : r.end ≡ largest count (λ i. get_or p.ends i 0)
  pub hit : r.hit ≡ not (ltb target r.end)

-- an order and its end
pub record OrderOf (S : Sheet) (r : Found) : Type 0 where
  pub size : length r.order ≡ most_jobs
  pub order : Order S (take S.jobs r.order)
  pub end : end_of S (take S.jobs r.order) ≡ r.end
  pub low : r.end < no_minute

-- ---- given starts tried

-- no list plan
abbrev pub none_listed : Found
none_listed = record { hit = false; end = no_minute; order = replicate most_jobs 0 }

-- job j may come next and starts at minute s
pub record NextJob (t : Jobs) (p : Part) (j s : ℕ) : Type 0 where
  pub job : j < count_of t
  pub start : JobStart t p j s
  pub low : s < no_minute

-- r is a part-plan with one job more than p
pub record OneMore (t : Jobs) (p r : Part) : Type 0 where
  pub known : Known t r
  pub placed : r.placed ≡ p.placed + 1

-- an order and its end, unless there is no list plan
abbrev pub Tried : Sheet → Found → Type 0
Tried S r = ¬ (r.end ≡ no_minute) → OrderOf S r

-- ---- annealing

-- an order that ends no later than this one
pub record Improved (S : Sheet) (best r : Found) : Type 0 where
  pub is : OrderOf S r
  pub no_later : r.end ≤ best.end
