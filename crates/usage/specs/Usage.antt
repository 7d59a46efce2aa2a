-- F-8: how much of the cabinet the plan of a sheet uses.
use Rattle.std.specs.Prelude.{◌≡◌, cond, List, [], ◌∷◌, ◌++◌, ℕ, eqb, length}
use Rattle.std.proofs.Math.Option.{none, some}
use Rattle.checking.specs.Checking.{Check, first_failing}
use Rattle.schedule.specs.Plan.{Sheet}
use Rattle.schedule.specs.ListPlan.{list_plan}
use Rattle.schedule.specs.TieRule.{best_order}
use Rattle.planable.specs.Planable.{sheet_in, planable_checks}
use Rattle.planner.specs.Planning.{plan_refusal}
use Rattle.planner.specs.Planned.{our_plan}
use Rattle.occupancy.specs.declared.Usage.{Usage}
use Rattle.occupancy.specs.Occupancy.{usage_of, UsedFor}

-- ---- what is answered

abbrev pub no_usage : ℕ → Usage
no_usage k = record { refusal = k; per_mille = 0; remainder = 0 }

-- "23 when the plan has no jobs, checked after 9"
abbrev pub job_checks : Sheet → List Check
job_checks S = (23, eqb S.jobs 0) ∷ []

abbrev pub use_checks : List ℕ → List Check
use_checks s = planable_checks s ++ job_checks (sheet_in s)

unfoldable pub use_refusal : List ℕ → ℕ
use_refusal s = first_failing (use_checks s)

-- of the plan that planning gives
unfoldable pub usage : List ℕ → Usage
usage s =
    cond (eqb (use_refusal s) 0)
    (elim (best_order (sheet_in s)) [ none ↦ no_usage 0 | some o ↦ usage_of (sheet_in s) (list_plan (sheet_in s) o) ])
    (no_usage (use_refusal s))

-- ---- what is proved of it

-- of the plan on whatever card planning writes of the sheet
abbrev pub UseAnswered : Type 0
UseAnswered = (s card : List ℕ) → use_refusal s ≡ 0 → plan_refusal s (length card) ≡ 0
    → ((usage s).refusal ≡ 0) × UsedFor (sheet_in s) (our_plan s card) (usage s)
