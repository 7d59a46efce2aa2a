-- The whole output of the example E1, and of sheets that are refused, computed from the definitions.
use mathlib.Core.Path.{◌≡◌, refl}
use mathlib.Core.List.{List, [], ◌∷◌, ◌++◌}
use Prim.Native.Nat.{ℕ}
use Rattle.counting.specs.Counting.{sum, largest, every, any, joined}
use Rattle.bits.specs.Bits.{bit, set_of}
use Rattle.schedule.specs.Plan.{over_wide}
use Rattle.schedule.specs.ListPlan.{ready, first_minute, start_of, place_all}
use Rattle.schedule.specs.TieRule.{orders_after, earliest_of}
use Rattle.checking.specs.Checking.{first_failing}
use Rattle.words.specs.Words.{number_at}
use Rattle.sheet_format.specs.Format.{record_at, no_jobs, places}
use Rattle.sheet_format.specs.Checks.{outside, faulty, wrong_label}
use Rattle.sheet.specs.Read.{reading}
use Rattle.sheet.specs.Label.{label_of}
use Rattle.sheet.proofs.Examples.{e1, labels}
use Rattle.planable.specs.Planable.{no_order}
use Rattle.planner.specs.Planning.{plan_refusal}
use Rattle.text.specs.Numbers.{digit, place, decimal, signed, hexadecimal}
use Rattle.text.specs.Lines.{line}
use Rattle.plan_text.specs.Printed.{plan_line, job_line, refused_line}
use Rattle.report.specs.Report.{best_lines, report_of}

-- fifteen zeros and a digit, the label, and the end of the line
abbrev modules : ℕ → ℕ → List ℕ
modules d label = 48 ∷ 48 ∷ 48 ∷ 48 ∷ 48 ∷ 48 ∷ 48 ∷ 48 ∷ 48 ∷ 48 ∷ 48 ∷ 48 ∷ 48 ∷ 48 ∷ 48 ∷ d ∷ 32 ∷ label ∷ 10 ∷ []

-- plan 30 3 2
-- 0 10 -20 0000000000000001 A
-- 10 30 5 0000000000000003 B
-- 0 10 -20 0000000000000002 C
pub e1_output : report_of e1
    ≡ (112 ∷ 108 ∷ 97 ∷ 110 ∷ 32 ∷ 51 ∷ 48 ∷ 32 ∷ 51 ∷ 32 ∷ 50 ∷ 10 ∷ [])
    ++ ((48 ∷ 32 ∷ 49 ∷ 48 ∷ 32 ∷ 45 ∷ 50 ∷ 48 ∷ 32 ∷ modules 49 65)
    ++ ((49 ∷ 48 ∷ 32 ∷ 51 ∷ 48 ∷ 32 ∷ 53 ∷ 32 ∷ modules 51 66)
    ++ (48 ∷ 32 ∷ 49 ∷ 48 ∷ 32 ∷ 45 ∷ 50 ∷ 48 ∷ 32 ∷ modules 50 67)))
unfolding
    e1 labels reading label_of first_failing outside faulty wrong_label any sum places joined record_at number_at largest every bit set_of over_wide
    ready first_minute start_of place_all orders_after earliest_of no_order plan_refusal digit place decimal signed hexadecimal line plan_line
    job_line refused_line best_lines report_of
e1_output = refl

-- E2, no jobs and one module: plan 0 0 1
pub e2_output : report_of (0 ∷ 0 ∷ 0 ∷ 0 ∷ 0 ∷ 0 ∷ 1 ∷ 0 ∷ 0 ∷ 0 ∷ []) ≡ 112 ∷ 108 ∷ 97 ∷ 110 ∷ 32 ∷ 48 ∷ 32 ∷ 48 ∷ 32 ∷ 49 ∷ 10 ∷ []
unfolding
    reading first_failing outside faulty wrong_label any sum places joined record_at number_at largest every bit set_of over_wide
    ready first_minute start_of place_all orders_after earliest_of no_order plan_refusal digit place decimal line plan_line
    job_line refused_line best_lines report_of
e2_output = refl

-- `refused`, a digit and the line's end
abbrev refused : ℕ → List ℕ
refused d = 114 ∷ 101 ∷ 102 ∷ 117 ∷ 115 ∷ 101 ∷ 100 ∷ 32 ∷ d ∷ 10 ∷ []

-- no byte at all: refused 1
pub none_output : report_of [] ≡ refused 49
unfolding
    reading first_failing outside faulty wrong_label any sum places no_jobs joined record_at number_at largest every bit set_of over_wide
    ready first_minute start_of place_all orders_after earliest_of no_order plan_refusal digit place decimal line plan_line
    job_line refused_line best_lines report_of
none_output = refl

-- one job, A, of so many modules with these earlier jobs, in a cabinet of one
abbrev one : ℕ → ℕ → List ℕ
one need earlier = 65 ∷ 1 ∷ need ∷ 10 ∷ 0 ∷ earlier ∷ 0 ∷ 0 ∷ 0 ∷ 0 ∷ 0 ∷ 0 ∷ 0 ∷ 1 ∷ 0 ∷ 0 ∷ 0 ∷ 1 ∷ 0 ∷ 1 ∷ 0 ∷ 0 ∷ 0 ∷ []

-- two jobs, A and B, each before the other; A needs so many modules
abbrev two : ℕ → List ℕ
two need =
    65 ∷ 66 ∷ 1 ∷ need ∷ 10 ∷ 0 ∷ 2 ∷ 0 ∷ 0 ∷ 0 ∷ 0 ∷ 0 ∷ 0 ∷ 0 ∷ 1 ∷ 1 ∷ 10 ∷ 0 ∷ 1 ∷ 0 ∷ 0 ∷ 0 ∷ 0 ∷ 0 ∷ 0 ∷ 0
    ∷ 2 ∷ 0 ∷ 0 ∷ 0 ∷ 2 ∷ 0 ∷ 1 ∷ 0 ∷ 0 ∷ 0 ∷ []

-- E3, a job that is too wide: refused 8. E4, two jobs each before the other: refused 9. E5, a job before itself: refused 9.
-- E6, E4 with one job too wide: refused 8.
pub refused_outputs : (report_of (one 2 0) ≡ refused 56) × (report_of (two 1) ≡ refused 57) × (report_of (one 1 1) ≡ refused 57)
    × (report_of (two 2) ≡ refused 56)
unfolding
    reading label_of first_failing outside faulty wrong_label any sum places joined record_at number_at largest every bit set_of over_wide
    ready first_minute start_of place_all orders_after earliest_of no_order plan_refusal digit place decimal signed hexadecimal line plan_line
    job_line refused_line best_lines report_of
refused_outputs = (refl, refl, refl, refl)
