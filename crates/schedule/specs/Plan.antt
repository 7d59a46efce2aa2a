-- Job sheets, plans and valid plans: P-1 to P-6; (1) to (5) are the paper's formulas (P-7).
use Rattle.std.specs.Prelude.{◌≡◌, ◌⊎◌, ◌≢◌, Bool, true, ℕ, ◌+◌, ◌≤◌, ◌<◌, ltb}
use Rattle.counting.specs.Counting.{largest, any, count}

-- What a job sheet says of its jobs 0 to jobs - 1 and of the cabinet's modules 0 to modules - 1.
-- need: "modules needed"; minutes: "minutes"; before i j: job i is one of job j's "earlier jobs".
-- arrival: the first minute at which a job may start; rest: minutes that a module rests between two jobs. Both are 0 in the base.
pub record Sheet : Type 0 where
  pub jobs : ℕ
  pub modules : ℕ
  pub need : ℕ → ℕ
  pub minutes : ℕ → ℕ
  pub before : ℕ → ℕ → Bool
  pub arrival : ℕ → ℕ
  pub rest : ℕ

-- "A plan gives each job a whole start minute, 0 or more, and a set of modules": uses j m says that module m is in job j's set.
pub record Plan : Type 0 where
  pub start : ℕ → ℕ
  pub uses : ℕ → ℕ → Bool

-- (3) "its end is its start plus its minutes"
abbrev pub finish : Sheet → Plan → ℕ → ℕ
finish S P j = P.start j + S.minutes j

-- "It is valid when":
pub record Valid (S : Sheet) (P : Plan) : Type 0 where
  -- "a set of modules out of 0 to N - 1"
  pub inside : (j m : ℕ) → j < S.jobs → P.uses j m ≡ true → m < S.modules
  -- (2) "a job has exactly as many modules as it needs"
  pub enough : (j : ℕ) → j < S.jobs → count S.modules (P.uses j) ≡ S.need j
  -- (4) "two jobs with a module in common do not overlap: one ends no later than the other starts"
  pub apart : (i j m : ℕ) → i < S.jobs → j < S.jobs → i ≢ j → P.uses i m ≡ true → P.uses j m ≡ true
      → (finish S P i + S.rest ≤ P.start j) ⊎ (finish S P j + S.rest ≤ P.start i)
  -- (5) "a job starts no earlier than the end of each of its earlier jobs"
  pub after : (i j : ℕ) → i < S.jobs → j < S.jobs → S.before i j ≡ true → finish S P i ≤ P.start j
  -- and no earlier than its arrival
  pub arrived : (j : ℕ) → j < S.jobs → S.arrival j ≤ P.start j

-- (1) "The plan's end is the largest job end, or 0 without jobs."
abbrev pub plan_end : Sheet → Plan → ℕ
plan_end S P = largest S.jobs (finish S P)

-- 8: "Some job needs more than N modules."
unfoldable pub over_wide : Sheet → Bool
over_wide S = any S.jobs (λ j. ltb S.modules (S.need j))

-- no job is wider than the cabinet
abbrev pub Narrow : Sheet → Type 0
Narrow S = (j : ℕ) → j < S.jobs → S.need j ≤ S.modules

-- every job takes a minute or more, as in every sheet that reads
abbrev pub Lasting : Sheet → Type 0
Lasting S = (j : ℕ) → j < S.jobs → 0 < S.minutes j

-- every job needs a module or more, as in every sheet that reads
abbrev pub Needing : Sheet → Type 0
Needing S = (j : ℕ) → j < S.jobs → 0 < S.need j

-- job i must have ended before job j starts, "directly or through others"
pub data MustPrecede (S : Sheet) : ℕ → ℕ → Type 0 where
  directly : {i j : ℕ} → i < S.jobs → j < S.jobs → S.before i j ≡ true → MustPrecede S i j
  through : {i k j : ℕ} → i < S.jobs → k < S.jobs → S.before i k ≡ true → MustPrecede S k j → MustPrecede S i j

-- 9: "Some job would have to end before itself, directly or through others."
abbrev pub Circular : Sheet → Type 0
Circular S = (j : ℕ) × MustPrecede S j j
