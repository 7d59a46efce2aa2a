-- Which jobs stand for others, and which jobs are to be tried.
use Rattle.std.specs.Prelude.{◌≡◌, ◌⊎◌, true, false, cond, List, ℕ, ◌+◌, ◌≤◌, ◌<◌, eqb, get_or}
use Rattle.std.specs.Int.Bits.{bit_or}
use Rattle.figures.specs.Figures.{most_jobs, no_minute}
use Rattle.bits.specs.Bits.{bit}
use Rattle.tables.specs.declared.Jobs.{Jobs}
use Rattle.tables.specs.Tables.{minutes_at, kept_at, arrival_at, earlier_at, count_of, changeover_of}
use Rattle.tables.specs.declared.Part.{Part}
use Rattle.relations.specs.Relations.{row_at}
pub use Rattle.starting.specs.Starting.{Alone}
use Rattle.branching.specs.declared.Behind.{Behind}

-- ---- jobs that were settled

-- those settled when a job was chosen that starts at the last start: they stay where the next choice, before which these were tried,
-- starts at that minute too
abbrev pub settled_now : ℕ → ℕ → ℕ → ℕ → ℕ
settled_now same tried start last = cond (eqb start last) (bit_or same tried) tried

-- ---- jobs that need not be tried

-- what is known where that is asked of job j: it is the number of a job, and so are those of the placed jobs, whose ends are small
pub record Passing (t : Jobs) (p : Part) (j : ℕ) : Type 0 where
  pub few : count_of t ≤ most_jobs
  pub placed : p.placed ≤ most_jobs
  pub job : j < most_jobs
  pub jobs : (k : ℕ) → k < p.placed → get_or p.order k 0 < most_jobs
  pub short : (k : ℕ) → k < p.placed → get_or p.ends (get_or p.order k 0) 0 + changeover_of t < 65536

-- a job that was tried is alike
abbrev pub AlikeTried : List ℕ → ℕ → ℕ → Type 0
AlikeTried related tried j = (i : ℕ) × (bit tried i ≡ true) × (bit (row_at related j).alike i ≡ true)

-- job j, settled when some placed job was chosen that may be swapped with it, would start as that one has ended and rested
abbrev pub Swapped : Jobs → List ℕ → Part → List ℕ → ℕ → ℕ → Type 0
Swapped t related p settled start j = (i : ℕ) × (i < count_of t) × (bit (row_at related j).swapping i ≡ true)
    × ((get_or p.ends i 0 + changeover_of t ≡ start) × ((bit p.unplaced i ≡ false) × (bit (get_or settled i 0) j ≡ true)))

-- r has the jobs that some job of the set waits for
abbrev pub AllAwaited : Jobs → ℕ → ℕ → Type 0
AllAwaited t set r = (x : ℕ) → x < count_of t → bit set x ≡ true → (k : ℕ) → bit (earlier_at t x) k ≡ true → bit r k ≡ true

-- every job of the set has arrived by minute r
abbrev pub AllArrived : Jobs → ℕ → ℕ → Type 0
AllArrived t set r = (x : ℕ) → x < count_of t → bit set x ≡ true → arrival_at t x ≤ r

-- of the first m placed jobs those from the `at`-th on are a block: what was placed before it has ended and rested when it begins, all
-- have arrived then, job j was settled when its first job was chosen, and none of the awaited jobs is in it
pub record BlockFrom (t : Jobs) (p : Part) (settled : List ℕ) (behind : Behind) (m j at : ℕ) : Type 0 where
  pub inside : at < m
  pub here : behind.arrived + minutes_at t (get_or p.order at 0) ≤ get_or p.ends (get_or p.order at 0) 0
  pub before : (k : ℕ) → k < at
      → get_or p.ends (get_or p.order k 0) 0 + changeover_of t + minutes_at t (get_or p.order at 0) ≤ get_or p.ends (get_or p.order at 0) 0
  pub settled_then : bit (get_or settled (get_or p.order at 0) 0) j ≡ true
  pub unawaited : (k : ℕ) → at ≤ k → k < m → bit behind.awaited (get_or p.order k 0) ≡ false

-- the last of the placed jobs are such a block, and all have ended and rested by minute `start`
pub record EndsInBlock (t : Jobs) (p : Part) (settled : List ℕ) (behind : Behind) (start j : ℕ) : Type 0 where
  pub at : ℕ
  pub block : BlockFrom t p settled behind p.placed j at
  pub ended : (k : ℕ) → k < p.placed → get_or p.ends (get_or p.order k 0) 0 + changeover_of t ≤ start

-- the same where job j would start; the awaited jobs are those for which some unplaced job waits, and all unplaced jobs have arrived
abbrev pub Blocked : Jobs → Part → List ℕ → ℕ → ℕ → Type 0
Blocked t p settled start j =
    (behind : Behind) × AllAwaited t p.unplaced behind.awaited × AllArrived t p.unplaced behind.arrived
    × EndsInBlock t p settled behind start j

-- a job that is alike was tried, or j was settled at the last start, where it would start, or it is swapped, or it is behind a block
abbrev pub PassedOver : Jobs → List ℕ → Part → List ℕ → ℕ → ℕ → ℕ → ℕ → Type 0
PassedOver t related p settled same tried start j =
    AlikeTried related tried j
    ⊎ (((start ≡ p.last) × (bit same j ≡ true)) ⊎ (Swapped t related p settled start j ⊎ Blocked t p settled start j))

-- ---- the jobs to be tried

-- job i may as well come before job j: it can have ended and rested before j starts, or it starts no later and can run beside no other
abbrev pub ComesBefore : Jobs → List ℕ → List ℕ → ℕ → ℕ → ℕ → Type 0
ComesBefore t related at set i j =
    (get_or at i 0 + kept_at t i ≤ get_or at j 0) ⊎ ((get_or at i 0 ≤ get_or at j 0) × Alone related set i)

-- each job of the set is to be tried, or may as well come behind one that is
abbrev pub ToTry : Jobs → List ℕ → List ℕ → ℕ → ℕ → Type 0
ToTry t related at set r = (j : ℕ) → j < count_of t → bit set j ≡ true
    → (bit r j ≡ true)
    ⊎ ((i : ℕ) × (i < count_of t) × ((bit r i ≡ true) × ((get_or at i 0 < no_minute) × ComesBefore t related at set i j)))

-- what is known of the starts: none before the least, no minute outside the set; and no job keeps its modules for 0 minutes
pub record Trying (t : Jobs) (at : List ℕ) (least set : ℕ) : Type 0 where
  pub few : count_of t ≤ most_jobs
  pub low : (j : ℕ) → j < count_of t → least ≤ get_or at j 0
  pub top : (j : ℕ) → j < count_of t → get_or at j 0 ≤ no_minute
  pub inside : (j : ℕ) → j < count_of t → get_or at j 0 < no_minute → bit set j ≡ true
  pub lasting : (j : ℕ) → j < count_of t → 0 < kept_at t j
