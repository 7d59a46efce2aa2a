-- The sets of jobs that a part-plan can hold, and how many there are.
use Rattle.std.specs.Prelude.{◌≡◌, ◌↔◌, Bool, true, false, not, ◌&&◌, ◌||◌, List, ℕ, suc, ◌^◌, ◌<◌, eqb}
use Rattle.counting.specs.Counting.{every, count}
use Rattle.bits.specs.Bits.{bit}
use Rattle.schedule.specs.Plan.{Sheet, Circular}
use Rattle.schedule.specs.ListPlan.{no_jobs, Follows, part_of}

-- "sets that contain, with each job, all its earlier jobs"
unfoldable pub closed : Sheet → (ℕ → Bool) → Bool
closed S d = every S.jobs (λ j. not (d j) || every S.jobs (λ i. not (S.before i j) || d i))

-- how many of the sets of jobs, kept one bit to a job, are closed
unfoldable pub closed_sets : Sheet → ℕ
closed_sets S = count (2 ^ S.jobs) (λ x. closed S (bit x))

-- ---- among some of the jobs

-- R i k: job k follows job i. The set d is among the jobs of L and has, with each job, every job of L that it follows.
abbrev pub closed_in : ℕ → (ℕ → ℕ → Bool) → (ℕ → Bool) → (ℕ → Bool) → Bool
closed_in n R L d = every n (λ k. not (d k) || (L k && every n (λ i. not (R i k && L i) || d i)))

-- how many of the sets of the numbers below n are
unfoldable pub sets_in : ℕ → (ℕ → ℕ → Bool) → (ℕ → Bool) → ℕ
sets_in n R L = count (2 ^ n) (λ x. closed_in n R L (bit x))

-- ---- what is proved of them

-- "job sets that a part-plan can hold": closed sets are exactly those that some part-plan has placed
abbrev pub HeldWhen : Type 0
HeldWhen = (S : Sheet) → ¬ Circular S → (d : ℕ → Bool)
    → (closed S d ≡ true) ↔ ((w : List ℕ) × Follows S no_jobs w × ((i : ℕ) → i < S.jobs → (part_of S w).placed i ≡ d i))

-- "A chain of n jobs has n + 1"
abbrev pub ChainSets : Type 0
ChainSets = (S : Sheet) → ((i j : ℕ) → i < S.jobs → j < S.jobs → S.before i j ≡ eqb (suc i) j) → closed_sets S ≡ suc S.jobs

-- "n jobs without marks have 2 to the power n"
abbrev pub FreeSets : Type 0
FreeSets = (S : Sheet) → ((i j : ℕ) → i < S.jobs → j < S.jobs → S.before i j ≡ false) → closed_sets S ≡ 2 ^ S.jobs
