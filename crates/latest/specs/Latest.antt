-- F-10: the latest start of each job, in the paper's words and in what they mean; slack.
use Rattle.std.specs.Prelude.{◌≡◌, ◌⊎◌, ◌↔◌, Bool, true, cond, ℕ, zero, suc, ◌+◌, ◌<◌, ℤ, pos, ◌+ℤ◌, ◌-ℤ◌, ◌≤ℤ◌, ◌<ℤ◌}
use Rattle.std.specs.Int.Signed.{le_z}
use Rattle.schedule.specs.Plan.{Sheet, Plan, Valid, finish, MustPrecede, Circular}

-- the smaller of two numbers
abbrev pub smaller : ℤ → ℤ → ℤ
smaller a b = cond (le_z a b) a b

-- the least of x and the values, below n, of the numbers that pass the test
unfoldable pub least_of : ℕ → (ℕ → Bool) → (ℕ → ℤ) → ℤ → ℤ
least_of zero p f x = x
least_of (suc n) p f x = cond (p n) (smaller (least_of n p f x) (f n)) (least_of n p f x)

-- the latest start of job j by the chains of at most k + 1 jobs that begin at it: its own departure less its minutes, and the latest
-- start of each job of which it is an earlier one, less its minutes
unfoldable pub latest_within : Sheet → (ℕ → ℕ) → ℕ → ℕ → ℤ
latest_within S departure zero j = pos (departure j) -ℤ pos (S.minutes j)
latest_within S departure (suc k) j =
    least_of S.jobs (S.before j) (λ i. latest_within S departure k i -ℤ pos (S.minutes j)) (pos (departure j) -ℤ pos (S.minutes j))

-- "the least, over itself and those jobs, of the departure less the most minutes that any chain between the two takes, both jobs
-- included" (`latest_is`)
abbrev pub latest_start_of : Sheet → (ℕ → ℕ) → ℕ → ℤ
latest_start_of S departure j = latest_within S departure S.jobs j

-- "The slack is that start, which may itself be below 0, minus the planned one"
abbrev pub slack_in : Sheet → (ℕ → ℕ) → Plan → ℕ → ℤ
slack_in S departure P j = latest_start_of S departure j -ℤ pos (P.start j)

-- ---- in the paper's words

-- a chain of marks from job j to job k takes m minutes, both jobs included
pub data Chain (S : Sheet) : ℕ → ℕ → ℕ → Type 0 where
  alone : {j : ℕ} → j < S.jobs → Chain S j j (S.minutes j)
  longer : {j i k m : ℕ} → j < S.jobs → S.before j i ≡ true → Chain S i k m → Chain S j k (S.minutes j + m)

-- x is the least of the departures less the most minutes: no chain from j gives less, and one gives x
pub record IsLatest (S : Sheet) (departure : ℕ → ℕ) (j : ℕ) (x : ℤ) : Type 0 where
  pub none_less : (k m : ℕ) → Chain S j k m → x ≤ℤ (pos (departure k) -ℤ pos m)
  pub by : ℕ
  pub minutes : ℕ
  pub chain : Chain S j by minutes
  pub is : x ≡ (pos (departure by) -ℤ pos minutes)

abbrev pub LatestIs : Type 0
LatestIs = (S : Sheet) → ¬ Circular S → (departure : ℕ → ℕ) (j : ℕ) → j < S.jobs → IsLatest S departure j (latest_start_of S departure j)

-- ---- in what they mean

-- "the latest start by which it and all jobs that follow it, directly or through others, can still meet their departures if modules were
-- unlimited, and arrivals and chains that don't begin at it are left aside": these are starts for job j at minute t and for what follows it
pub record Meets (S : Sheet) (departure : ℕ → ℕ) (j : ℕ) (t : ℤ) (start : ℕ → ℤ) : Type 0 where
  pub here : start j ≡ t
  pub own : (t +ℤ pos (S.minutes j)) ≤ℤ pos (departure j)
  pub waits : (k : ℕ) → k < S.jobs → S.before j k ≡ true → (t +ℤ pos (S.minutes j)) ≤ℤ start k
  pub waits_on : (i k : ℕ) → MustPrecede S j i → k < S.jobs → S.before i k ≡ true → (start i +ℤ pos (S.minutes i)) ≤ℤ start k
  pub meets : (k : ℕ) → MustPrecede S j k → (start k +ℤ pos (S.minutes k)) ≤ℤ pos (departure k)

-- such starts exist exactly up to the latest start
abbrev pub LatestMeans : Type 0
LatestMeans = (S : Sheet) → ¬ Circular S → (departure : ℕ → ℕ) (j : ℕ) → j < S.jobs → (t : ℤ)
    → (t ≤ℤ latest_start_of S departure j) ↔ ((start : ℕ → ℤ) × Meets S departure j t start)

-- ---- slack

-- "negative when the job's own departure is missed"
abbrev pub MissedIsNegative : Type 0
MissedIsNegative = (S : Sheet) (departure : ℕ → ℕ) (P : Plan) (j : ℕ) → j < S.jobs → departure j < finish S P j
    → slack_in S departure P j <ℤ pos 0

-- slack below 0 means that the job, or one that follows it, is late in the plan
abbrev pub NoSlackSomebodyLate : Type 0
NoSlackSomebodyLate = (S : Sheet) → ¬ Circular S → (departure : ℕ → ℕ) (P : Plan) → Valid S P → (j : ℕ) → j < S.jobs
    → slack_in S departure P j <ℤ pos 0
    → (k : ℕ) × ((k ≡ j) ⊎ MustPrecede S j k) × (departure k < finish S P k)
