-- What is made of a job table once: for each job the jobs that it follows, and those that follow it.
use Rattle.std.specs.Prelude.{◌≡◌, ◌&&◌, ◌||◌, List, ℕ, ◌<◌, get_or}
use Rattle.counting.specs.Counting.{any}
use Rattle.bits.specs.Bits.{bit, set_of}
use Rattle.schedule.specs.Plan.{Sheet}
use Rattle.tables.specs.declared.Jobs.{Jobs}
use Rattle.tables.specs.Tables.{sheet_of, earlier_at, count_of}
use Rattle.marks.specs.Following.{follows}

-- r has the earlier jobs of each job of `set` that is below n
abbrev pub Reached : Jobs → ℕ → ℕ → ℕ → Type 0
Reached t set n r = (i : ℕ) → bit r i ≡ any n (λ a. bit (earlier_at t a) i && bit set a)

-- r has job j's earlier jobs, and those of each job of `set`
abbrev pub Further : Jobs → ℕ → ℕ → ℕ → Type 0
Further t j set r = (i : ℕ) → bit r i ≡ (bit (earlier_at t j) i || any (count_of t) (λ a. bit (earlier_at t a) i && bit set a))

-- the jobs that job j follows
abbrev pub FollowedBy : Jobs → ℕ → ℕ → Type 0
FollowedBy t j r = (i : ℕ) → bit r i ≡ follows (sheet_of t) i j

-- the same of each of the first n jobs
abbrev pub FollowedTo : Jobs → ℕ → List ℕ → Type 0
FollowedTo t n before = (j : ℕ) → j < n → FollowedBy t j (get_or before j 0)

-- the jobs that follow job i, from the sets of the first n jobs
abbrev pub LaterThan : List ℕ → ℕ → ℕ → ℕ → Type 0
LaterThan before i n r = r ≡ set_of n (λ j. bit (get_or before j 0) i)

-- the same of each of the first m jobs
abbrev pub LaterTo : List ℕ → ℕ → ℕ → List ℕ → Type 0
LaterTo before n m behind = (i : ℕ) → i < m → LaterThan before i n (get_or behind i 0)

-- `before` has the jobs that each job follows, and `behind` those that follow it
pub record Marked (S : Sheet) (before behind : List ℕ) : Type 0 where
  pub earlier : (i j : ℕ) → i < S.jobs → j < S.jobs → bit (get_or before j 0) i ≡ follows S i j
  pub later : (i j : ℕ) → i < S.jobs → j < S.jobs → bit (get_or behind i 0) j ≡ follows S i j
