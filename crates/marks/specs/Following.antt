-- Which jobs follow a job, directly or through others.
use Rattle.std.specs.Prelude.{◌≡◌, ◌↔◌, Bool, true, ◌&&◌, ◌||◌, ℕ, zero, suc, ◌<◌}
use Rattle.counting.specs.Counting.{any}
use Rattle.schedule.specs.Plan.{Sheet, MustPrecede, Circular}

-- job j follows job i by a chain of at most k + 1 marks
unfoldable pub follows_within : Sheet → ℕ → ℕ → ℕ → Bool
follows_within S zero i j = S.before i j
follows_within S (suc k) i j = S.before i j || any S.jobs (λ a. S.before i a && follows_within S k a j)

-- job j follows job i, "directly or through others" (`follows_when`)
abbrev pub follows : Sheet → ℕ → ℕ → Bool
follows S i j = follows_within S S.jobs i j

-- where no job would have to end before itself, these are the jobs that must have ended before job j starts
abbrev pub FollowsWhen : Type 0
FollowsWhen = (S : Sheet) → ¬ Circular S → (i j : ℕ) → i < S.jobs → j < S.jobs → (follows S i j ≡ true) ↔ MustPrecede S i j
