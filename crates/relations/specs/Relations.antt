-- What follows from a sheet's jobs alone: chains, and which jobs are alike, may be swapped or can run side by side.
use Rattle.std.specs.Prelude.{◌≡◌, ◌⊎◌, ◌≢◌, true, false, List, ℕ, ◌+◌, ◌*◌, ◌<◌, get_or, set}
use Rattle.bits.specs.Bits.{bit, with_bit, set_of}
use Rattle.tables.specs.declared.Jobs.{Jobs}
use Rattle.tables.specs.Tables.{sheet_of, need_at, minutes_at, earlier_at, count_of, modules_of}
use Rattle.pairs.specs.Pairs.{AreAlike, MaySwap}
use Rattle.relations.specs.declared.Row.{Row}
use Rattle.schedule.specs.Bounds.{chain}

-- ---- chains and later jobs

-- the longest chains of at most k jobs
pub record ChainsOf (t : Jobs) (tails : List ℕ) (k : ℕ) : Type 0 where
  pub each : (j : ℕ) → j < count_of t → get_or tails j 0 ≡ chain (sheet_of t) k j

-- each job's later jobs: those of which it is an earlier job
abbrev pub Laters : Jobs → List ℕ → Type 0
Laters t later = (i k : ℕ) → i < count_of t → k < count_of t → bit (get_or later i 0) k ≡ bit (earlier_at t k) i

-- the later jobs of job i
abbrev pub LaterOf : Jobs → ℕ → ℕ → ℕ → Type 0
LaterOf t i n r = r ≡ set_of n (λ k. bit (earlier_at t k) i)

-- ---- pairs of jobs

-- whatever waits for job a waits for job b
abbrev pub WaitsToo : Jobs → ℕ → ℕ → Type 0
WaitsToo t a b = (k : ℕ) → k < count_of t → bit (earlier_at t k) a ≡ true → bit (earlier_at t k) b ≡ true

-- job i may come in job j's place: it has its modules and minutes, and whatever waits for j waits for i
abbrev pub Alike : Jobs → ℕ → ℕ → Type 0
Alike t i j = (need_at t i ≡ need_at t j) × ((minutes_at t i ≡ minutes_at t j) × WaitsToo t j i)

-- job j may come in job i's place, with i behind it: it has its modules, and whatever waits for i waits for j
abbrev pub Swapping : Jobs → ℕ → ℕ → Type 0
Swapping t i j = (need_at t i ≡ need_at t j) × WaitsToo t i j

-- the row of job j as far as the first n jobs go
pub record RowOf (t : Jobs) (j n : ℕ) (row : Row) : Type 0 where
  pub alike : (i : ℕ) → bit row.alike i ≡ true → (i < n) × Alike t i j
  pub swapping : (i : ℕ) → bit row.swapping i ≡ true → (i < n) × Swapping t i j
  pub beside : (i : ℕ) → i < n → bit row.beside i ≡ false → i ≢ j → modules_of t < need_at t i + need_at t j

-- the places of one row, and of the rows of all jobs
abbrev pub row_places : ℕ
row_places = 3

abbrev pub all_places : ℕ
all_places = 60

-- the rows of all jobs: job j's sets are at places 3 * j, 3 * j + 1 and 3 * j + 2
abbrev pub row_at : List ℕ → ℕ → Row
row_at related j = record {
  alike = get_or related (j * row_places) 0;
  swapping = get_or related (j * row_places + 1) 0;
  beside = get_or related (j * row_places + 2) 0;
}

abbrev pub Related : Jobs → List ℕ → Type 0
Related t related = (j : ℕ) → j < count_of t → RowOf t j (count_of t) (row_at related j)

-- ---- steps of the code

-- r is the row with job i, the first, in those of its sets to which it belongs; j is the second, and `later` has the later jobs of each
pub record PairPut (row : Row) (t : Jobs) (later : List ℕ) (i j : ℕ) (r : Row) : Type 0 where
  pub alike : (r.alike ≡ row.alike) ⊎ ((r.alike ≡ with_bit row.alike i)
      × AreAlike (need_at t i) (need_at t j) (minutes_at t i) (minutes_at t j) (get_or later i 0) (get_or later j 0))
  pub swapping : (r.swapping ≡ row.swapping) ⊎ ((r.swapping ≡ with_bit row.swapping i)
      × MaySwap (need_at t i) (need_at t j) (get_or later i 0) (get_or later j 0))
  pub beside : ((r.beside ≡ row.beside) × (i ≢ j → modules_of t < need_at t i + need_at t j)) ⊎ (r.beside ≡ with_bit row.beside i)

-- the rows with that of job j
abbrev pub with_row : List ℕ → ℕ → Row → List ℕ
with_row all j row =
    set (set (set all (j * row_places) row.alike) (j * row_places + 1) row.swapping) (j * row_places + 2) row.beside
