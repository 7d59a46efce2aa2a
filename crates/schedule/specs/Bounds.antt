-- What the bounds on a plan's end speak of.
use Rattle.std.specs.Prelude.{◌≡◌, Bool, true, false, cond, ◌&&◌, ℕ, zero, suc, ◌+◌, ◌-◌, ◌*◌, ◌≤◌, max, min, leb, ltb}
use Rattle.counting.specs.Counting.{only, sum, largest}
use Rattle.schedule.specs.Plan.{Sheet, finish}
use Rattle.schedule.specs.ListPlan.{PartPlan}

-- the minutes of the longest chain of at most k jobs, each an earlier job of the next, that begins with job j
unfoldable pub chain : Sheet → ℕ → ℕ → ℕ
chain S zero j = 0
chain S (suc k) j = S.minutes j + largest S.jobs (λ i. only (S.before j i) (chain S k i))

-- the minute before which job j cannot start, as far as chains of at most k jobs tell that end with it: each job starts no earlier than its
-- arrival and the ends of its earlier jobs
unfoldable pub head : Sheet → ℕ → ℕ → ℕ
head S zero j = 0
head S (suc k) j = max (S.arrival j) (largest S.jobs (λ i. only (S.before i j) (head S k i + S.minutes i)))

-- how long job k keeps its modules from others: its minutes, and the rest behind them. A plan that ends by T gives back its last modules by
-- T + rest.
abbrev pub kept : Sheet → ℕ → ℕ
kept S k = S.minutes k + S.rest

-- the module-minutes that job i keeps from minute l on: what is left of it if it is placed, and all of it if not
abbrev pub todo : Sheet → PartPlan → ℕ → ℕ → ℕ
todo S P l i = cond (P.placed i) (S.need i * (finish S P.plan i + S.rest - l)) (S.need i * kept S i)

-- the module-minutes that are gone at minute l, and those of all jobs from then on
unfoldable pub work : Sheet → PartPlan → ℕ → ℕ
work S P l = S.modules * l + sum S.jobs (todo S P l)

-- AT: the minute from which module m is free of the placed jobs
abbrev pub available_from : Sheet → PartPlan → ℕ → ℕ
available_from S P m = largest S.jobs (λ i. only (P.placed i && P.plan.uses i m) (finish S P.plan i + S.rest))

-- no set of jobs that are left and keep a module for x minutes together weighs more than Z x
abbrev pub Lasts : Sheet → PartPlan → (ℕ → ℕ) → (ℕ → ℕ) → Type 0
Lasts S P y Z = (X : ℕ → Bool) (x : ℕ) → ((k : ℕ) → X k ≡ true → P.placed k ≡ false)
    → sum S.jobs (λ k. only (X k) (kept S k)) ≤ x → sum S.jobs (λ k. only (X k) (y k)) ≤ Z x

-- no set of jobs that are left, keep a module for x minutes together and, if each starts from its minute r on, have room behind every minute
-- up to C, is worth more than Z x
abbrev pub ServesFrom : Sheet → PartPlan → ℕ → (ℕ → ℕ) → (ℕ → ℕ) → (ℕ → ℕ) → Type 0
ServesFrom S P C r v Z = (X : ℕ → Bool) (x : ℕ) → x ≤ C → ((k : ℕ) → X k ≡ true → P.placed k ≡ false)
    → sum S.jobs (λ k. only (X k) (kept S k)) ≤ x
    → ((a : ℕ) → sum S.jobs (λ k. only (X k && leb a (r k)) (kept S k)) ≤ C - a)
    → sum S.jobs (λ k. only (X k) (v k)) ≤ Z x

-- a job that keeps its modules for so many minutes has them at minute m, if it starts from a minute on, and early enough that a chain which
-- begins with it ends by T
abbrev pub must_run : ℕ → ℕ → ℕ → ℕ → ℕ → Bool
must_run from chain T m kept = leb T (m + chain) && ltb m (from + kept)

-- of the minutes for which a job keeps its modules so many are behind minute a at least, if it starts from a minute on
abbrev pub minutes_behind : ℕ → ℕ → ℕ → ℕ
minutes_behind from a kept = min kept (from + kept - a)

-- what the minute t adds to the reach of a lane that is open up to minute T
abbrev pub gain : (ℕ → ℕ) → ℕ → ℕ → ℕ
gain Z T t = Z (T - t) - Z (T - suc t)
