-- The two questions that are asked of a sheet's valid plans, list plans or not: when the first of them ends, and whether some end by a minute.
use Rattle.std.specs.Prelude.{◌≡◌, ℕ, ◌≤◌}
use Rattle.schedule.specs.Plan.{Sheet, Plan, Valid, plan_end}

-- some valid plan ends at minute t, and none earlier
pub record EarliestEnd (S : Sheet) (t : ℕ) : Type 0 where
  pub some : (P : Plan) × Valid S P × (plan_end S P ≡ t)
  pub least : (P : Plan) → Valid S P → t ≤ plan_end S P

-- some valid plan ends by minute t
abbrev pub EndsBy : Sheet → ℕ → Type 0
EndsBy S t = (P : Plan) × Valid S P × (plan_end S P ≤ t)
