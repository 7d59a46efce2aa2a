-- A table of the jobs that are left, made for one part-plan: what a lane can serve in so many steps, where no job starts before its release.
use Rattle.std.specs.Prelude.{◌≡◌, Bool, true, false, cond, ◌&&◌, List, ℕ, ◌+◌, ◌-◌, ◌*◌, ◌/◌, ◌≤◌, ◌<◌, max, min, leb, eqb, get_or}
use Rattle.counting.specs.Counting.{only, sum, Rises}
use Rattle.figures.specs.Figures.{most_jobs, no_minute}
use Rattle.bits.specs.Bits.{bit}
use Rattle.tables.specs.declared.Jobs.{Jobs}
use Rattle.tables.specs.Tables.{need_at, kept_at, count_of, modules_of, Fit}
use Rattle.tables.specs.declared.Part.{Part}
use Rattle.placement.specs.Profile.{ProfileOf}
use Rattle.lanes.specs.Lanes.{served_on}
use Rattle.fitting.specs.declared.Frame.{Frame}

-- ---- figures

-- the cells of all rows, and the places of a slate: behind the cells stands each job's share, and behind these what tables have paid
abbrev pub cells : ℕ
cells = 6144

abbrev pub slate_size : ℕ
slate_size = cells + most_jobs + 4 * (most_jobs + 2) + 1

-- what a job's value is at most
abbrev pub top_value : ℕ
top_value = 1600

-- how far a share moves at most
abbrev pub most_move : ℕ
most_move = 4294967296 * 65536 * 24

-- ---- the jobs that are left

-- the minute before which job k cannot start: its start if it may come next, and else minute l
unfoldable pub release_at : List ℕ → ℕ → ℕ → ℕ
release_at at l k = cond (eqb (get_or at k 0) no_minute) l (get_or at k 0)

-- k is one of the first n
abbrev pub Among : List ℕ → ℕ → ℕ → Type 0
Among order n k = (i : ℕ) × (i < n) × (get_or order i 0 ≡ k)

-- each of the first n is the number of a job
pub record Within (order : List ℕ) (n : ℕ) : Type 0 where
  pub few : n ≤ most_jobs
  pub each : (i : ℕ) → i < n → get_or order i 0 < most_jobs

-- so many jobs by falling release
pub record Ordered (release : ℕ → ℕ) (jobs : ℕ) (order : List ℕ) (n : ℕ) : Type 0 where
  pub few : n ≤ most_jobs
  pub each : (i : ℕ) → i < n → get_or order i 0 < jobs
  pub falls : (i k : ℕ) → i ≤ k → k < n → release (get_or order k 0) ≤ release (get_or order i 0)

-- all jobs of a set are among them
abbrev pub AllAmong : ℕ → ℕ → List ℕ → ℕ → Type 0
AllAmong set jobs order n = (k : ℕ) → k < jobs → bit set k ≡ true → Among order n k

-- a value for each job, and none for a job that keeps its modules for less than a step
pub record Valued (t : Jobs) (step : ℕ) (value : List ℕ) : Type 0 where
  pub small : (k : ℕ) → get_or value k 0 ≤ top_value
  pub short : (k : ℕ) → kept_at t k < step → get_or value k 0 ≡ 0

-- none for a job that is not of the set
abbrev pub NoneBeside : ℕ → List ℕ → Type 0
NoneBeside set value = (k : ℕ) → bit set k ≡ false → get_or value k 0 ≡ 0

-- ---- rows

-- the columns of a table reach from its least minute to its closing minute
pub record Framed (f : Frame) : Type 0 where
  pub some : 0 < f.step
  pub inside : (f.close - f.least) / f.step < f.cols
  pub before : f.least ≤ f.close

-- the slate has room for n rows behind the first
abbrev pub HasRoom : Frame → ℕ → Type 0
HasRoom f n = f.cols * (n + 1) ≤ cells

-- the row of a slate that begins at a place
abbrev pub row_at : List ℕ → ℕ → ℕ → ℕ
row_at slate from x = get_or slate (from + x) 0

-- a row with one job more, of value v, that lasts d steps and has h steps from its release on
unfoldable pub row_with : (ℕ → ℕ) → ℕ → ℕ → ℕ → ℕ → ℕ
row_with row d h v x = max (row x) (only (leb d (min x h)) (v + row (min x h - d)))

-- the jobs of X keep a module for x minutes together, and have room up to minute C behind every minute from which on they start
abbrev pub FitsIn : Jobs → (ℕ → ℕ) → ℕ → (ℕ → Bool) → ℕ → Type 0
FitsIn t release C X x = (sum (count_of t) (λ k. only (X k) (kept_at t k)) ≤ x)
    × ((a : ℕ) → sum (count_of t) (λ k. only (X k && leb a (release k)) (kept_at t k)) ≤ C - a)

-- no set of the first n jobs that fits into x minutes is worth more than the row has for them
pub record RowOf (t : Jobs) (f : Frame) (release value : ℕ → ℕ) (order : List ℕ) (n : ℕ) (row : ℕ → ℕ) : Type 0 where
  pub holds : (X : ℕ → Bool) (x : ℕ) → x ≤ f.close - f.least → ((k : ℕ) → k < count_of t → X k ≡ true → Among order n k)
      → FitsIn t release f.close X x → sum (count_of t) (λ k. only (X k) (value k)) ≤ row (x / f.step)
  pub rises : (a b : ℕ) → a ≤ b → b < f.cols → row a ≤ row b
  pub none : row 0 ≡ 0
  pub small : (x : ℕ) → x < f.cols → row x ≤ top_value * n

-- what a lane can serve in x minutes by a row
abbrev pub reach_by : Frame → (ℕ → ℕ) → ℕ → ℕ
reach_by f row x = row (min x (f.close - f.least) / f.step)

-- what a table asks of its figures
pub record Tabling (t : Jobs) (p : Part) (f : Frame) (order : List ℕ) (n : ℕ) (release : List ℕ) (gone free : ℕ) : Type 0 where
  pub fit : Fit t
  pub framed : Framed f
  pub room : HasRoom f n
  pub ordered : Ordered (λ k. get_or release k 0) (count_of t) order n
  pub all : AllAmong p.unplaced (count_of t) order n
  pub released : (k : ℕ) → k < count_of t → f.least ≤ get_or release k 0
  pub profile : ProfileOf p gone free (modules_of t) f.least

-- ---- the answer

-- the unplaced jobs, each of which starts from its release on, have more value than the lanes, one on each module, can serve from minute l
-- up to minute C
pub record OverfullFrom (t : Jobs) (p : Part) (release : ℕ → ℕ) (l C : ℕ) : Type 0 where
  pub value : ℕ → ℕ
  pub reach : ℕ → ℕ
  pub serves : (X : ℕ → Bool) (x : ℕ) → x ≤ C → ((k : ℕ) → k < count_of t → X k ≡ true → bit p.unplaced k ≡ true)
      → FitsIn t release C X x → sum (count_of t) (λ k. only (X k) (value k)) ≤ reach x
  pub reach-rises : Rises C reach
  pub reach-none : reach 0 ≡ 0
  pub over : served_on (λ x. x) reach (modules_of t) p l C < sum (count_of t) (λ k. only (bit p.unplaced k) (need_at t k * value k))
