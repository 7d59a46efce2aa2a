-- What a part-plan in code stands for: the theory's part-plan of the jobs placed, in their order.
use Rattle.std.specs.Prelude.{◌≡◌, ◌≢◌, Bool, not, ◌&&◌, List, [], ◌∷◌, ◌++◌, ℕ, ◌+◌, ◌-◌, ◌*◌, ◌^◌, ◌≤◌, ◌<◌, max, eqb, length, get_or}
use Rattle.std.specs.Int.Bits.{bit_and}
use Rattle.std.specs.Int.Count.{ones}
use Rattle.counting.specs.Counting.{only, sum, largest}
use Rattle.figures.specs.Figures.{most_jobs, most_modules}
use Rattle.bits.specs.Bits.{bit, without_bit}
use Rattle.schedule.specs.Plan.{Sheet, finish}
use Rattle.schedule.specs.ListPlan.{PartPlan, no_jobs, Follows, part_of}
use Rattle.tables.specs.declared.Jobs.{Jobs}
use Rattle.tables.specs.Tables.{need_at, minutes_at, kept_at, arrival_at, earlier_at, count_of, modules_of, changeover_of}
use Rattle.tables.specs.declared.Part.{Part}
use Rattle.tables.specs.Part.{word_of}
use Rattle.placement.specs.Profile.{held_of, ProfileOf, FirstRoomOf, Inserted}

-- p has the figures of the theory's part-plan P
pub record Figures (S : Sheet) (P : PartPlan) (p : Part) : Type 0 where
  pub size : length p.ends ≡ most_jobs
  pub places : length p.order ≡ most_jobs
  -- "Sets of jobs are kept one bit to a job"
  pub low : p.unplaced < 2 ^ S.jobs
  pub set : (i : ℕ) → i < S.jobs → bit p.unplaced i ≡ not (P.placed i)
  -- "how many jobs remain is the number of ones"
  pub sizes : p.placed + ones p.unplaced ≡ S.jobs
  pub last : p.last ≡ P.last
  -- an unplaced job's end is 0
  pub ends : (i : ℕ) → i < S.jobs → get_or p.ends i 0 ≡ only (P.placed i) (finish S P.plan i)
  -- the module-minutes that the unplaced jobs keep from others
  pub left : p.left ≡ sum S.jobs (λ i. only (not (P.placed i)) (S.need i * (S.minutes i + S.rest)))
  pub profile : ProfileOf p p.gone p.free S.modules p.last
  -- whatever is counted for each module of the minute from which it is free again, the placed jobs sorted by their ends give the same
  pub by_end : (g : ℕ → ℕ) → sum p.placed (λ k. get_or p.held k 0 * g (get_or p.until k 0))
      ≡ sum S.jobs (λ i. only (P.placed i) (S.need i * g (finish S P.plan i + S.rest)))

-- p is the part-plan of the jobs w, which follow one another
pub record IsPart (S : Sheet) (w : List ℕ) (p : Part) : Type 0 where
  pub word : word_of p ≡ w
  pub follows : Follows S no_jobs w
  pub figures : Figures S (part_of S w) p

-- ---- one job more, by the figures alone

-- job j of the table t can be placed at minute `start`
pub record Placeable (t : Jobs) (p : Part) (j start : ℕ) : Type 0 where
  pub size : length p.ends ≡ most_jobs
  pub places : length p.order ≡ most_jobs
  pub job : j < most_jobs
  pub count : p.placed < most_jobs
  pub later : p.last ≤ start
  pub lasts : 0 < minutes_at t j
  pub fits : start + kept_at t j < 65536
  pub keeps : kept_at t j ≡ minutes_at t j + changeover_of t
  pub most : modules_of t ≤ most_modules
  pub profile : ProfileOf p p.gone p.free (modules_of t) p.last
  pub room : held_of p start + need_at t j ≤ modules_of t
  pub area : need_at t j * kept_at t j ≤ p.left

-- the lists of p with job j, which ends at `end` and keeps `width` modules until minute `until`; the single numbers are as before
pub record ListsWith (p : Part) (j end until width : ℕ) (r : Part) : Type 0 where
  pub size : length r.ends ≡ length p.ends
  pub places : length r.order ≡ length p.order
  pub here : get_or r.ends j 0 ≡ end
  pub ends : (i : ℕ) → i < most_jobs → i ≢ j → get_or r.ends i 0 ≡ get_or p.ends i 0
  pub lists : Inserted p r until width
  pub order : (k : ℕ) → k < p.placed → get_or r.order k 0 ≡ get_or p.order k 0
  pub job : get_or r.order p.placed 0 ≡ j
  pub single : (r.placed ≡ p.placed) × (r.unplaced ≡ p.unplaced)

-- r is p with job j placed there
pub record Placed (t : Jobs) (p : Part) (j start : ℕ) (r : Part) : Type 0 where
  pub size : length r.ends ≡ most_jobs
  pub places : length r.order ≡ most_jobs
  pub unplaced : r.unplaced ≡ without_bit p.unplaced j
  pub left : r.left ≡ p.left - need_at t j * kept_at t j
  pub last : r.last ≡ start
  pub placed : r.placed ≡ p.placed + 1
  pub end : get_or r.ends j 0 ≡ start + minutes_at t j
  pub ends : (i : ℕ) → i < most_jobs → i ≢ j → get_or r.ends i 0 ≡ get_or p.ends i 0
  pub word : word_of r ≡ word_of p ++ (j ∷ [])
  pub lists : Inserted p r (start + kept_at t j) (need_at t j)
  pub profile : ProfileOf r r.gone r.free (modules_of t) start

-- ---- the next job

-- the latest of minute t and the ends of the jobs in the set
abbrev pub waits : List ℕ → ℕ → ℕ → ℕ → ℕ
waits ends set jobs t = max t (largest jobs (λ i. only (bit set i) (get_or ends i 0)))

-- r is the start of job j: the first minute, from the last start, its arrival and the ends of its earlier jobs on, at which its modules are free
abbrev pub StartFor : Jobs → Part → ℕ → ℕ → Type 0
StartFor t p j r =
    FirstRoomOf p (modules_of t) (need_at t j) (waits p.ends (earlier_at t j) (count_of t) (max p.last (arrival_at t j))) r

-- job j is unplaced, and none of its earlier jobs is
abbrev pub is_ready : Jobs → Part → ℕ → Bool
is_ready t p j = bit p.unplaced j && eqb (bit_and (earlier_at t j) p.unplaced) 0

-- ---- no job is placed

pub record FirstPart (t : Jobs) (p : Part) : Type 0 where
  pub size : length p.ends ≡ most_jobs
  pub places : length p.order ≡ most_jobs
  pub unplaced : p.unplaced ≡ 2 ^ count_of t - 1
  pub left : p.left ≡ sum (count_of t) (λ i. need_at t i * kept_at t i)
  pub last : p.last ≡ 0
  pub free : p.free ≡ modules_of t
  pub placed : p.placed ≡ 0
  pub gone : p.gone ≡ 0
  pub ends : (i : ℕ) → i < most_jobs → get_or p.ends i 0 ≡ 0
