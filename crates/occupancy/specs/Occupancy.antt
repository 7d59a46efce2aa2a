-- F-8: the module-minutes that jobs occupy in a plan, and their share of the cabinet's.
use Rattle.std.specs.Prelude.{◌≡◌, Bool, ◌&&◌, ℕ, ◌+◌, ◌*◌, ◌/◌, ◌%◌, ◌≤◌, ◌<◌, leb, ltb}
use Rattle.counting.specs.Counting.{sum, any, count}
use Rattle.schedule.specs.Plan.{Sheet, Plan, finish, plan_end}
use Rattle.occupancy.specs.declared.Usage.{Usage}

-- ---- what is counted

-- some job runs on module m at minute t; a module that rests is not occupied: "changeovers not counted"
abbrev pub runs_on : Sheet → Plan → ℕ → ℕ → Bool
runs_on S P t m = any S.jobs (λ j. (leb (P.start j) t && ltb t (finish S P j)) && P.uses j m)

-- the module-minutes "that jobs occupied", up to the plan's end, counted one by one
unfoldable pub occupied_minutes : Sheet → Plan → ℕ
occupied_minutes S P = sum (plan_end S P) (λ t. count S.modules (runs_on S P t))

-- what the jobs' records say of it (`occupied_is`: it is the same): the modules times the minutes of each job, added up
unfoldable pub work_in : Sheet → ℕ
work_in S = sum S.jobs (λ j. S.need j * S.minutes j)

-- "N times the plan's end"
unfoldable pub cabinet_minutes : Sheet → Plan → ℕ
cabinet_minutes S P = S.modules * plan_end S P

-- ---- the share

-- "the per mille .. as a whole number, and with it the exact remainder": of a thousand times x over y
abbrev pub share_of : ℕ → ℕ → Usage
share_of x y = record { refusal = 0; per_mille = 1000 * x / y; remainder = 1000 * x % y }

-- "the per mille of N times the plan's end that jobs occupied"
abbrev pub usage_of : Sheet → Plan → Usage
usage_of S P = share_of (occupied_minutes S P) (cabinet_minutes S P)

-- ---- what is proved of it

pub record UsedFor (S : Sheet) (P : Plan) (u : Usage) : Type 0 where
  -- the module-minutes that were counted are the modules times the minutes of each job, added up
  pub work : occupied_minutes S P ≡ work_in S
  -- "a thousand times the occupied module-minutes is the per mille times that product plus the remainder"
  pub whole : 1000 * occupied_minutes S P ≡ u.per_mille * cabinet_minutes S P + u.remainder
  -- "which is smaller than the product"
  pub less : u.remainder < cabinet_minutes S P
  pub most : u.per_mille ≤ 1000
