-- What the printing program prints of a job sheet's bytes: X-1 to X-4.
use Rattle.std.specs.Prelude.{cond, List, [], ◌++◌, ℕ, eqb}
use Rattle.std.proofs.Math.Option.{none, some}
use Rattle.counting.specs.Counting.{joined}
use Rattle.bits.specs.Bits.{set_of}
use Rattle.schedule.specs.Plan.{Sheet, Plan, finish, plan_end}
use Rattle.schedule.specs.ListPlan.{list_plan}
use Rattle.schedule.specs.TieRule.{best_order}
use Rattle.sheet.specs.Label.{label_of}
use Rattle.planable.specs.Planable.{sheet_in}
use Rattle.planner.specs.Planning.{plan_refusal}
use Rattle.plan_text.specs.Printed.{plan_line, job_line, refused_line, departure_of, longest_card}

-- the line of job j in a plan P of the sheet S that the bytes s read as
abbrev pub line_of_job : List ℕ → Sheet → Plan → ℕ → List ℕ
line_of_job s S P j = job_line (label_of s j) (P.start j) (finish S P j) (departure_of s j) (set_of S.modules (P.uses j))

-- all lines of the plan: the first, "then a line per job in sheet order"
abbrev pub plan_lines : List ℕ → Sheet → Plan → List ℕ
plan_lines s S P = plan_line (plan_end S P) S.jobs S.modules ++ joined S.jobs (line_of_job s S P)

-- the lines of the tie rule's plan
unfoldable pub best_lines : List ℕ → Sheet → List ℕ
best_lines s S = elim (best_order S) [ none ↦ [] | some o ↦ plan_lines s S (list_plan S o) ]

-- the whole output
unfoldable pub report_of : List ℕ → List ℕ
report_of s =
    cond (eqb (plan_refusal s longest_card) 0) (best_lines s (sheet_in s)) (refused_line (plan_refusal s longest_card))
