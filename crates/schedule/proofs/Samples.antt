-- Random sheets and plans, and what tests/schedule_model.py, which reads the document on its own, says of them.
-- Written by that model: its rows are compared with these by the gate.
use mathlib.Core.Path.{◌≡◌, refl}
use mathlib.Core.Bool.{true, false}
use mathlib.Core.List.{List, [], ◌∷◌}
use Prim.Native.Nat.{ℕ}
use Rattle.counting.specs.Counting.{sum, largest, every, any, joined}
use Rattle.schedule.specs.Plan.{over_wide}
use Rattle.schedule.specs.ListPlan.{ready, first_minute, start_of, place_all}
use Rattle.schedule.specs.TieRule.{wide, circular, planned, orders_after, earliest_of, answer_of}
use Rattle.schedule.specs.Rows.{Job, resting_sheet, slot, Row, answers, places, all_hold}
use Rattle.schedule.specs.ValidTest.{is_valid}
use Rattle.schedule.proofs.ValidTest.{Judged, judged, all_judged}

abbrev late : ℕ → ℕ → List ℕ → ℕ → Job
late w m e a = record { need = w; minutes = m; earlier = e; arrival = a }

pub answered : List Row
answered =
    answers (resting_sheet (late 2 2 ([]) 0 ∷ late 2 2 (0 ∷ []) 1 ∷ late 2 4 (0 ∷ 1 ∷ []) 2 ∷ []) 3 0) (planned (0 ∷ 1 ∷ 2 ∷ []) 8)
    ∷ answers (resting_sheet (late 1 3 ([]) 4 ∷ late 2 6 ([]) 3 ∷ late 2 1 (0 ∷ []) 3 ∷ late 2 5 (2 ∷ []) 0 ∷ []) 2 1) (planned (1 ∷ 0 ∷ 2 ∷ 3 ∷ []) 21)
    ∷ answers (resting_sheet (late 2 6 ([]) 0 ∷ late 3 6 (0 ∷ []) 3 ∷ late 2 5 (0 ∷ []) 0 ∷ []) 3 0) (planned (0 ∷ 1 ∷ 2 ∷ []) 17)
    ∷ answers (resting_sheet ([]) 2 0) (planned ([]) 0)
    ∷ answers (resting_sheet ([]) 3 1) (planned ([]) 0)
    ∷ answers (resting_sheet (late 1 6 (0 ∷ 1 ∷ []) 2 ∷ late 1 6 (0 ∷ 1 ∷ []) 4 ∷ []) 1 0) (circular)
    ∷ answers (resting_sheet (late 1 1 ([]) 3 ∷ late 1 2 (0 ∷ []) 3 ∷ []) 3 0) (planned (0 ∷ 1 ∷ []) 6)
    ∷ answers (resting_sheet (late 2 6 ([]) 3 ∷ late 1 2 ([]) 3 ∷ late 3 3 ([]) 0 ∷ late 3 5 ([]) 3 ∷ []) 3 2) (planned (2 ∷ 0 ∷ 1 ∷ 3 ∷ []) 18)
    ∷ answers (resting_sheet (late 2 3 ([]) 3 ∷ late 1 6 ([]) 1 ∷ []) 4 2) (planned (1 ∷ 0 ∷ []) 7)
    ∷ answers (resting_sheet (late 4 3 ([]) 1 ∷ late 4 3 ([]) 1 ∷ late 4 5 (1 ∷ 2 ∷ []) 3 ∷ late 2 4 (3 ∷ []) 0 ∷ []) 4 2) (circular)
    ∷ answers (resting_sheet (late 2 5 ([]) 4 ∷ late 1 1 (0 ∷ []) 0 ∷ late 1 4 (0 ∷ 1 ∷ []) 2 ∷ []) 2 2) (planned (0 ∷ 1 ∷ 2 ∷ []) 16)
    ∷ answers (resting_sheet (late 1 3 ([]) 3 ∷ late 1 3 ([]) 4 ∷ late 1 4 ([]) 3 ∷ late 1 2 (2 ∷ []) 4 ∷ []) 1 0) (planned (0 ∷ 1 ∷ 2 ∷ 3 ∷ []) 15)
    ∷ answers (resting_sheet (late 1 6 ([]) 1 ∷ late 1 3 ([]) 1 ∷ []) 1 2) (planned (0 ∷ 1 ∷ []) 12)
    ∷ answers (resting_sheet (late 2 4 ([]) 0 ∷ late 2 1 ([]) 0 ∷ []) 2 0) (planned (0 ∷ 1 ∷ []) 5)
    ∷ answers (resting_sheet (late 3 2 ([]) 3 ∷ []) 2 0) (wide)
    ∷ answers (resting_sheet (late 2 6 ([]) 3 ∷ []) 2 0) (planned (0 ∷ []) 9)
    ∷ answers (resting_sheet (late 1 1 ([]) 3 ∷ late 1 5 ([]) 2 ∷ late 1 1 ([]) 0 ∷ late 1 6 ([]) 0 ∷ []) 1 1) (planned (2 ∷ 1 ∷ 0 ∷ 3 ∷ []) 16)
    ∷ answers (resting_sheet (late 1 5 ([]) 2 ∷ late 1 2 ([]) 0 ∷ []) 1 2) (planned (1 ∷ 0 ∷ []) 9)
    ∷ answers (resting_sheet ([]) 3 0) (planned ([]) 0)
    ∷ answers (resting_sheet (late 1 6 ([]) 0 ∷ late 2 4 ([]) 2 ∷ []) 1 0) (wide)
    ∷ answers (resting_sheet (late 2 4 ([]) 4 ∷ late 2 6 ([]) 2 ∷ late 2 5 ([]) 1 ∷ []) 3 2) (planned (2 ∷ 0 ∷ 1 ∷ []) 20)
    ∷ answers (resting_sheet (late 2 5 (0 ∷ 1 ∷ []) 0 ∷ late 2 4 (0 ∷ []) 3 ∷ []) 2 1) (circular)
    ∷ answers (resting_sheet (late 2 5 ([]) 1 ∷ late 1 2 ([]) 1 ∷ late 2 6 ([]) 4 ∷ late 4 4 (2 ∷ []) 0 ∷ []) 3 1) (wide)
    ∷ answers (resting_sheet (late 1 3 ([]) 0 ∷ late 2 1 (1 ∷ []) 3 ∷ []) 4 0) (circular)
    ∷ answers (resting_sheet (late 3 6 ([]) 2 ∷ late 3 4 ([]) 3 ∷ []) 3 0) (planned (0 ∷ 1 ∷ []) 12)
    ∷ answers (resting_sheet (late 2 4 ([]) 3 ∷ []) 2 0) (planned (0 ∷ []) 7)
    ∷ answers (resting_sheet ([]) 2 0) (planned ([]) 0)
    ∷ answers (resting_sheet (late 2 5 ([]) 3 ∷ late 2 2 ([]) 1 ∷ late 2 1 ([]) 0 ∷ late 2 3 (0 ∷ []) 4 ∷ []) 2 1) (planned (2 ∷ 1 ∷ 0 ∷ 3 ∷ []) 14)
    ∷ answers (resting_sheet (late 1 4 ([]) 1 ∷ late 1 2 ([]) 0 ∷ late 2 4 (0 ∷ 1 ∷ []) 0 ∷ []) 1 1) (wide)
    ∷ answers (resting_sheet (late 4 3 ([]) 3 ∷ late 4 4 ([]) 0 ∷ []) 4 0) (planned (1 ∷ 0 ∷ []) 7)
    ∷ answers (resting_sheet (late 2 6 ([]) 4 ∷ late 2 2 ([]) 1 ∷ []) 2 0) (planned (1 ∷ 0 ∷ []) 10)
    ∷ answers (resting_sheet ([]) 3 0) (planned ([]) 0)
    ∷ answers (resting_sheet (late 1 2 ([]) 4 ∷ late 1 5 (0 ∷ []) 2 ∷ late 1 6 ([]) 1 ∷ late 1 6 ([]) 2 ∷ []) 1 0) (planned (2 ∷ 0 ∷ 1 ∷ 3 ∷ []) 20)
    ∷ answers (resting_sheet (late 2 4 ([]) 0 ∷ late 1 5 ([]) 2 ∷ late 1 2 (1 ∷ []) 0 ∷ late 2 1 (0 ∷ []) 2 ∷ []) 4 2) (planned (0 ∷ 1 ∷ 2 ∷ 3 ∷ []) 9)
    ∷ answers (resting_sheet ([]) 4 0) (planned ([]) 0)
    ∷ answers (resting_sheet (late 1 2 (0 ∷ []) 3 ∷ late 1 1 ([]) 2 ∷ []) 1 0) (circular)
    ∷ answers (resting_sheet (late 1 4 ([]) 2 ∷ late 3 6 ([]) 1 ∷ late 1 4 ([]) 4 ∷ late 2 2 ([]) 4 ∷ []) 2 0) (wide)
    ∷ answers (resting_sheet (late 3 1 ([]) 2 ∷ late 1 5 ([]) 3 ∷ late 5 2 ([]) 1 ∷ late 4 6 ([]) 1 ∷ []) 4 2) (wide)
    ∷ answers (resting_sheet (late 2 1 ([]) 2 ∷ []) 3 0) (planned (0 ∷ []) 3)
    ∷ answers (resting_sheet (late 1 5 ([]) 4 ∷ []) 1 0) (planned (0 ∷ []) 9)
    ∷ answers (resting_sheet (late 1 6 ([]) 3 ∷ []) 2 0) (planned (0 ∷ []) 9)
    ∷ answers (resting_sheet (late 4 3 ([]) 3 ∷ late 1 6 (0 ∷ 2 ∷ []) 1 ∷ late 4 5 (0 ∷ 2 ∷ []) 4 ∷ []) 4 2) (circular)
    ∷ answers (resting_sheet (late 2 4 (1 ∷ 2 ∷ []) 1 ∷ late 1 4 (1 ∷ 2 ∷ []) 2 ∷ late 2 4 (0 ∷ 1 ∷ 2 ∷ []) 2 ∷ []) 2 0) (circular)
    ∷ answers (resting_sheet (late 3 2 ([]) 3 ∷ []) 4 0) (planned (0 ∷ []) 5)
    ∷ answers (resting_sheet (late 5 5 ([]) 3 ∷ late 4 5 ([]) 0 ∷ late 1 2 (0 ∷ 1 ∷ []) 3 ∷ []) 4 2) (wide)
    ∷ answers (resting_sheet ([]) 4 0) (planned ([]) 0)
    ∷ answers (resting_sheet (late 3 2 ([]) 2 ∷ []) 4 1) (planned (0 ∷ []) 4)
    ∷ answers (resting_sheet (late 3 2 ([]) 4 ∷ late 2 1 ([]) 1 ∷ late 2 5 (0 ∷ []) 2 ∷ late 1 5 (2 ∷ []) 0 ∷ []) 3 0) (planned (0 ∷ 2 ∷ 1 ∷ 3 ∷ []) 16)
    ∷ answers (resting_sheet (late 1 1 ([]) 1 ∷ []) 1 1) (planned (0 ∷ []) 2)
    ∷ answers (resting_sheet ([]) 2 1) (planned ([]) 0)
    ∷ answers (resting_sheet (late 1 2 ([]) 3 ∷ late 1 6 (0 ∷ []) 0 ∷ late 1 6 (0 ∷ []) 2 ∷ []) 1 0) (planned (0 ∷ 1 ∷ 2 ∷ []) 17)
    ∷ answers (resting_sheet (late 1 3 ([]) 2 ∷ []) 1 2) (planned (0 ∷ []) 5)
    ∷ answers (resting_sheet (late 2 4 ([]) 4 ∷ []) 2 0) (planned (0 ∷ []) 8)
    ∷ answers (resting_sheet (late 3 3 ([]) 0 ∷ []) 3 2) (planned (0 ∷ []) 3)
    ∷ answers (resting_sheet (late 4 6 ([]) 4 ∷ late 4 3 (0 ∷ []) 0 ∷ late 4 3 ([]) 1 ∷ []) 4 2) (planned (2 ∷ 0 ∷ 1 ∷ []) 17)
    ∷ answers (resting_sheet ([]) 1 2) (planned ([]) 0)
    ∷ answers (resting_sheet (late 1 4 ([]) 0 ∷ []) 1 0) (planned (0 ∷ []) 4)
    ∷ answers (resting_sheet (late 2 3 ([]) 1 ∷ []) 2 1) (planned (0 ∷ []) 4)
    ∷ answers (resting_sheet ([]) 2 0) (planned ([]) 0)
    ∷ answers (resting_sheet (late 1 6 ([]) 2 ∷ []) 1 1) (planned (0 ∷ []) 8)
    ∷ answers (resting_sheet (late 1 2 ([]) 0 ∷ late 2 3 ([]) 0 ∷ late 2 2 (0 ∷ []) 0 ∷ late 2 5 (1 ∷ 2 ∷ []) 0 ∷ late 2 5 ([]) 0 ∷ []) 2 0) (planned (0 ∷ 1 ∷ 2 ∷ 3 ∷ 4 ∷ []) 17)
    ∷ answers (resting_sheet (late 1 6 ([]) 0 ∷ late 1 2 ([]) 0 ∷ late 1 1 ([]) 0 ∷ late 1 3 (0 ∷ 1 ∷ []) 0 ∷ late 1 5 (0 ∷ 3 ∷ []) 0 ∷ []) 1 0) (planned (0 ∷ 1 ∷ 2 ∷ 3 ∷ 4 ∷ []) 17)
    ∷ answers (resting_sheet (late 2 2 ([]) 0 ∷ late 1 2 (0 ∷ []) 0 ∷ late 1 6 ([]) 0 ∷ late 2 6 ([]) 0 ∷ late 1 1 ([]) 0 ∷ []) 3 0) (planned (0 ∷ 2 ∷ 3 ∷ 1 ∷ 4 ∷ []) 9)
    ∷ answers (resting_sheet (late 2 3 ([]) 0 ∷ late 1 1 (2 ∷ 3 ∷ []) 0 ∷ late 2 6 ([]) 0 ∷ late 1 3 ([]) 0 ∷ []) 2 0) (planned (0 ∷ 2 ∷ 3 ∷ 1 ∷ []) 13)
    ∷ answers (resting_sheet ([]) 2 0) (planned ([]) 0)
    ∷ answers (resting_sheet (late 1 5 ([]) 0 ∷ []) 2 0) (planned (0 ∷ []) 5)
    ∷ answers (resting_sheet (late 1 4 ([]) 0 ∷ late 1 1 ([]) 0 ∷ late 4 2 ([]) 0 ∷ []) 4 0) (planned (0 ∷ 1 ∷ 2 ∷ []) 6)
    ∷ answers (resting_sheet (late 2 4 ([]) 0 ∷ late 1 5 ([]) 0 ∷ late 3 4 (1 ∷ []) 0 ∷ late 1 1 (0 ∷ []) 0 ∷ late 2 5 (1 ∷ []) 0 ∷ []) 3 0) (planned (0 ∷ 1 ∷ 2 ∷ 3 ∷ 4 ∷ []) 14)
    ∷ []

pub answered_right : all_hold answered ≡ true
unfolding answered sum largest every any joined over_wide ready first_minute start_of place_all orders_after earliest_of answer_of is_valid
answered_right = refl

pub placed : List Row
placed =
    places (resting_sheet (late 1 2 ([]) 0 ∷ []) 2 2) (0 ∷ []) (slot 0 (0 ∷ []) ∷ [])
    ∷ places (resting_sheet (late 1 4 ([]) 0 ∷ late 3 5 ([]) 3 ∷ late 3 2 ([]) 4 ∷ late 3 5 ([]) 0 ∷ late 3 2 ([]) 2 ∷ late 4 4 ([]) 4 ∷ []) 4 1) (0 ∷ 4 ∷ 2 ∷ 1 ∷ 5 ∷ 3 ∷ []) (slot 0 (0 ∷ []) ∷ slot 8 (0 ∷ 1 ∷ 2 ∷ []) ∷ slot 5 (0 ∷ 1 ∷ 2 ∷ []) ∷ slot 19 (0 ∷ 1 ∷ 2 ∷ []) ∷ slot 2 (1 ∷ 2 ∷ 3 ∷ []) ∷ slot 14 (0 ∷ 1 ∷ 2 ∷ 3 ∷ []) ∷ [])
    ∷ places (resting_sheet (late 1 1 ([]) 4 ∷ late 1 2 ([]) 0 ∷ late 1 4 ([]) 1 ∷ late 1 4 ([]) 2 ∷ late 1 2 ([]) 1 ∷ late 1 2 ([]) 0 ∷ []) 1 1) (0 ∷ 3 ∷ 5 ∷ 4 ∷ 2 ∷ 1 ∷ []) (slot 4 (0 ∷ []) ∷ slot 22 (0 ∷ []) ∷ slot 17 (0 ∷ []) ∷ slot 6 (0 ∷ []) ∷ slot 14 (0 ∷ []) ∷ slot 11 (0 ∷ []) ∷ [])
    ∷ places (resting_sheet (late 1 2 ([]) 4 ∷ late 1 3 (0 ∷ []) 2 ∷ late 2 4 (1 ∷ []) 2 ∷ late 1 1 (0 ∷ 1 ∷ []) 1 ∷ late 3 3 ([]) 4 ∷ late 1 3 (2 ∷ []) 0 ∷ []) 3 2) (0 ∷ 1 ∷ 2 ∷ 3 ∷ 5 ∷ 4 ∷ []) (slot 4 (0 ∷ []) ∷ slot 6 (1 ∷ []) ∷ slot 9 (0 ∷ 2 ∷ []) ∷ slot 11 (1 ∷ []) ∷ slot 19 (0 ∷ 1 ∷ 2 ∷ []) ∷ slot 14 (1 ∷ []) ∷ [])
    ∷ places (resting_sheet (late 2 4 ([]) 1 ∷ late 1 1 ([]) 1 ∷ late 2 3 ([]) 1 ∷ late 1 1 ([]) 1 ∷ late 2 4 ([]) 1 ∷ []) 2 0) (0 ∷ 4 ∷ 2 ∷ 1 ∷ 3 ∷ []) (slot 1 (0 ∷ 1 ∷ []) ∷ slot 12 (0 ∷ []) ∷ slot 9 (0 ∷ 1 ∷ []) ∷ slot 12 (1 ∷ []) ∷ slot 5 (0 ∷ 1 ∷ []) ∷ [])
    ∷ places (resting_sheet (late 1 2 ([]) 4 ∷ late 1 3 ([]) 1 ∷ late 3 1 ([]) 3 ∷ late 3 4 ([]) 0 ∷ late 2 4 ([]) 2 ∷ []) 3 1) (0 ∷ 3 ∷ 4 ∷ 1 ∷ 2 ∷ []) (slot 4 (0 ∷ []) ∷ slot 12 (2 ∷ []) ∷ slot 17 (0 ∷ 1 ∷ 2 ∷ []) ∷ slot 7 (0 ∷ 1 ∷ 2 ∷ []) ∷ slot 12 (0 ∷ 1 ∷ []) ∷ [])
    ∷ places (resting_sheet (late 1 1 ([]) 4 ∷ late 2 5 ([]) 1 ∷ []) 3 1) (1 ∷ 0 ∷ []) (slot 4 (2 ∷ []) ∷ slot 1 (0 ∷ 1 ∷ []) ∷ [])
    ∷ places (resting_sheet (late 1 2 ([]) 0 ∷ []) 3 0) (0 ∷ []) (slot 0 (0 ∷ []) ∷ [])
    ∷ places (resting_sheet (late 1 2 ([]) 3 ∷ late 1 1 (0 ∷ []) 0 ∷ late 1 6 (0 ∷ 1 ∷ []) 4 ∷ []) 1 1) (0 ∷ 1 ∷ 2 ∷ []) (slot 3 (0 ∷ []) ∷ slot 6 (0 ∷ []) ∷ slot 8 (0 ∷ []) ∷ [])
    ∷ places (resting_sheet (late 1 1 ([]) 0 ∷ late 1 3 (0 ∷ []) 3 ∷ late 1 1 (0 ∷ []) 1 ∷ late 1 5 (2 ∷ []) 0 ∷ late 1 5 (0 ∷ 1 ∷ 3 ∷ []) 3 ∷ []) 1 2) (0 ∷ 2 ∷ 3 ∷ 1 ∷ 4 ∷ []) (slot 0 (0 ∷ []) ∷ slot 13 (0 ∷ []) ∷ slot 3 (0 ∷ []) ∷ slot 6 (0 ∷ []) ∷ slot 18 (0 ∷ []) ∷ [])
    ∷ places (resting_sheet (late 1 1 ([]) 2 ∷ late 1 5 ([]) 3 ∷ []) 1 1) (1 ∷ 0 ∷ []) (slot 9 (0 ∷ []) ∷ slot 3 (0 ∷ []) ∷ [])
    ∷ places (resting_sheet (late 1 1 ([]) 0 ∷ late 1 4 ([]) 1 ∷ late 1 1 ([]) 3 ∷ []) 1 0) (0 ∷ 1 ∷ 2 ∷ []) (slot 0 (0 ∷ []) ∷ slot 1 (0 ∷ []) ∷ slot 5 (0 ∷ []) ∷ [])
    ∷ places (resting_sheet (late 3 5 ([]) 2 ∷ []) 4 0) (0 ∷ []) (slot 2 (0 ∷ 1 ∷ 2 ∷ []) ∷ [])
    ∷ places (resting_sheet (late 1 1 ([]) 3 ∷ late 1 1 (0 ∷ []) 0 ∷ late 1 5 ([]) 3 ∷ late 1 2 (0 ∷ []) 0 ∷ late 1 2 ([]) 4 ∷ []) 1 2) (0 ∷ 3 ∷ 2 ∷ 1 ∷ 4 ∷ []) (slot 3 (0 ∷ []) ∷ slot 17 (0 ∷ []) ∷ slot 10 (0 ∷ []) ∷ slot 6 (0 ∷ []) ∷ slot 20 (0 ∷ []) ∷ [])
    ∷ places (resting_sheet (late 1 3 ([]) 3 ∷ late 1 1 ([]) 2 ∷ late 1 3 ([]) 0 ∷ late 1 6 ([]) 1 ∷ late 1 2 ([]) 1 ∷ late 2 5 ([]) 0 ∷ []) 2 0) (0 ∷ 1 ∷ 5 ∷ 4 ∷ 2 ∷ 3 ∷ []) (slot 3 (0 ∷ []) ∷ slot 3 (1 ∷ []) ∷ slot 11 (1 ∷ []) ∷ slot 13 (0 ∷ []) ∷ slot 11 (0 ∷ []) ∷ slot 6 (0 ∷ 1 ∷ []) ∷ [])
    ∷ places (resting_sheet (late 1 5 ([]) 1 ∷ late 1 1 ([]) 2 ∷ late 1 2 ([]) 4 ∷ late 1 2 (0 ∷ 1 ∷ []) 0 ∷ []) 1 0) (0 ∷ 1 ∷ 2 ∷ 3 ∷ []) (slot 1 (0 ∷ []) ∷ slot 6 (0 ∷ []) ∷ slot 7 (0 ∷ []) ∷ slot 9 (0 ∷ []) ∷ [])
    ∷ places (resting_sheet (late 2 4 ([]) 1 ∷ late 2 3 ([]) 4 ∷ late 1 3 (1 ∷ []) 0 ∷ late 1 5 (0 ∷ 2 ∷ []) 4 ∷ late 1 3 (1 ∷ []) 4 ∷ late 2 4 (0 ∷ 1 ∷ 2 ∷ 3 ∷ []) 2 ∷ []) 2 2) (1 ∷ 0 ∷ 2 ∷ 3 ∷ 4 ∷ 5 ∷ []) (slot 9 (0 ∷ 1 ∷ []) ∷ slot 4 (0 ∷ 1 ∷ []) ∷ slot 15 (0 ∷ []) ∷ slot 18 (1 ∷ []) ∷ slot 20 (0 ∷ []) ∷ slot 25 (0 ∷ 1 ∷ []) ∷ [])
    ∷ places (resting_sheet ([]) 4 2) ([]) ([])
    ∷ places (resting_sheet ([]) 3 2) ([]) ([])
    ∷ places (resting_sheet (late 1 5 ([]) 2 ∷ late 1 2 ([]) 4 ∷ []) 1 2) (0 ∷ 1 ∷ []) (slot 2 (0 ∷ []) ∷ slot 9 (0 ∷ []) ∷ [])
    ∷ places (resting_sheet (late 4 1 ([]) 3 ∷ late 3 1 ([]) 2 ∷ late 1 3 (1 ∷ []) 1 ∷ late 3 5 ([]) 0 ∷ late 4 2 (1 ∷ []) 4 ∷ []) 4 0) (1 ∷ 3 ∷ 4 ∷ 0 ∷ 2 ∷ []) (slot 10 (0 ∷ 1 ∷ 2 ∷ 3 ∷ []) ∷ slot 2 (0 ∷ 1 ∷ 2 ∷ []) ∷ slot 11 (0 ∷ []) ∷ slot 3 (0 ∷ 1 ∷ 2 ∷ []) ∷ slot 8 (0 ∷ 1 ∷ 2 ∷ 3 ∷ []) ∷ [])
    ∷ places (resting_sheet (late 2 3 ([]) 0 ∷ late 2 6 ([]) 1 ∷ late 2 5 ([]) 4 ∷ late 1 5 ([]) 0 ∷ late 1 4 ([]) 3 ∷ []) 2 2) (4 ∷ 2 ∷ 1 ∷ 0 ∷ 3 ∷ []) (slot 24 (0 ∷ 1 ∷ []) ∷ slot 16 (0 ∷ 1 ∷ []) ∷ slot 9 (0 ∷ 1 ∷ []) ∷ slot 29 (0 ∷ []) ∷ slot 3 (0 ∷ []) ∷ [])
    ∷ places (resting_sheet (late 1 2 ([]) 0 ∷ late 2 4 ([]) 2 ∷ late 2 5 ([]) 3 ∷ late 2 6 ([]) 0 ∷ late 2 3 ([]) 4 ∷ late 2 4 ([]) 2 ∷ []) 2 0) (0 ∷ 4 ∷ 1 ∷ 3 ∷ 2 ∷ 5 ∷ []) (slot 0 (0 ∷ []) ∷ slot 7 (0 ∷ 1 ∷ []) ∷ slot 17 (0 ∷ 1 ∷ []) ∷ slot 11 (0 ∷ 1 ∷ []) ∷ slot 4 (0 ∷ 1 ∷ []) ∷ slot 22 (0 ∷ 1 ∷ []) ∷ [])
    ∷ places (resting_sheet ([]) 2 1) ([]) ([])
    ∷ places (resting_sheet (late 2 2 ([]) 1 ∷ late 2 2 (0 ∷ []) 3 ∷ late 2 6 ([]) 0 ∷ late 3 3 ([]) 0 ∷ []) 3 0) (0 ∷ 3 ∷ 1 ∷ 2 ∷ []) (slot 1 (0 ∷ 1 ∷ []) ∷ slot 6 (0 ∷ 1 ∷ []) ∷ slot 8 (0 ∷ 1 ∷ []) ∷ slot 3 (0 ∷ 1 ∷ 2 ∷ []) ∷ [])
    ∷ places (resting_sheet ([]) 4 2) ([]) ([])
    ∷ places (resting_sheet ([]) 3 1) ([]) ([])
    ∷ places (resting_sheet ([]) 3 2) ([]) ([])
    ∷ places (resting_sheet (late 3 6 ([]) 1 ∷ late 2 3 ([]) 3 ∷ late 1 4 ([]) 3 ∷ late 3 1 ([]) 2 ∷ []) 3 0) (1 ∷ 0 ∷ 3 ∷ 2 ∷ []) (slot 6 (0 ∷ 1 ∷ 2 ∷ []) ∷ slot 3 (0 ∷ 1 ∷ []) ∷ slot 13 (0 ∷ []) ∷ slot 12 (0 ∷ 1 ∷ 2 ∷ []) ∷ [])
    ∷ places (resting_sheet (late 3 1 ([]) 4 ∷ late 2 1 ([]) 2 ∷ late 1 3 ([]) 2 ∷ late 1 2 ([]) 1 ∷ late 1 6 ([]) 4 ∷ []) 3 0) (2 ∷ 1 ∷ 4 ∷ 0 ∷ 3 ∷ []) (slot 10 (0 ∷ 1 ∷ 2 ∷ []) ∷ slot 2 (1 ∷ 2 ∷ []) ∷ slot 2 (0 ∷ []) ∷ slot 11 (0 ∷ []) ∷ slot 4 (1 ∷ []) ∷ [])
    ∷ places (resting_sheet ([]) 3 0) ([]) ([])
    ∷ places (resting_sheet (late 3 2 ([]) 3 ∷ late 4 2 ([]) 0 ∷ late 1 1 (0 ∷ []) 0 ∷ late 4 4 ([]) 1 ∷ late 4 1 ([]) 2 ∷ late 1 5 ([]) 2 ∷ []) 4 2) (0 ∷ 5 ∷ 1 ∷ 2 ∷ 4 ∷ 3 ∷ []) (slot 3 (0 ∷ 1 ∷ 2 ∷ []) ∷ slot 10 (0 ∷ 1 ∷ 2 ∷ 3 ∷ []) ∷ slot 14 (0 ∷ []) ∷ slot 20 (0 ∷ 1 ∷ 2 ∷ 3 ∷ []) ∷ slot 17 (0 ∷ 1 ∷ 2 ∷ 3 ∷ []) ∷ slot 3 (3 ∷ []) ∷ [])
    ∷ places (resting_sheet ([]) 3 2) ([]) ([])
    ∷ places (resting_sheet (late 2 3 ([]) 0 ∷ late 2 4 ([]) 4 ∷ late 2 5 ([]) 2 ∷ late 4 3 ([]) 2 ∷ late 3 6 ([]) 3 ∷ late 4 1 ([]) 1 ∷ []) 4 2) (1 ∷ 3 ∷ 5 ∷ 2 ∷ 4 ∷ 0 ∷ []) (slot 33 (0 ∷ 1 ∷ []) ∷ slot 4 (0 ∷ 1 ∷ []) ∷ slot 18 (0 ∷ 1 ∷ []) ∷ slot 10 (0 ∷ 1 ∷ 2 ∷ 3 ∷ []) ∷ slot 25 (0 ∷ 1 ∷ 2 ∷ []) ∷ slot 15 (0 ∷ 1 ∷ 2 ∷ 3 ∷ []) ∷ [])
    ∷ places (resting_sheet ([]) 1 0) ([]) ([])
    ∷ places (resting_sheet (late 1 6 ([]) 0 ∷ late 1 6 ([]) 4 ∷ late 1 6 (1 ∷ []) 2 ∷ late 1 6 (1 ∷ 2 ∷ []) 3 ∷ late 1 1 ([]) 3 ∷ late 1 6 (0 ∷ 1 ∷ 2 ∷ 3 ∷ 4 ∷ []) 3 ∷ []) 1 0) (1 ∷ 2 ∷ 3 ∷ 0 ∷ 4 ∷ 5 ∷ []) (slot 22 (0 ∷ []) ∷ slot 4 (0 ∷ []) ∷ slot 10 (0 ∷ []) ∷ slot 16 (0 ∷ []) ∷ slot 28 (0 ∷ []) ∷ slot 29 (0 ∷ []) ∷ [])
    ∷ places (resting_sheet (late 1 6 ([]) 3 ∷ late 2 1 ([]) 4 ∷ late 2 5 (0 ∷ []) 1 ∷ late 2 2 (0 ∷ []) 4 ∷ late 1 6 ([]) 0 ∷ []) 3 0) (0 ∷ 2 ∷ 3 ∷ 4 ∷ 1 ∷ []) (slot 3 (0 ∷ []) ∷ slot 16 (0 ∷ 1 ∷ []) ∷ slot 9 (0 ∷ 1 ∷ []) ∷ slot 14 (0 ∷ 1 ∷ []) ∷ slot 14 (2 ∷ []) ∷ [])
    ∷ places (resting_sheet (late 2 6 ([]) 2 ∷ late 2 3 (0 ∷ []) 3 ∷ late 1 5 (1 ∷ []) 0 ∷ late 1 2 (0 ∷ 2 ∷ []) 0 ∷ late 2 1 (3 ∷ []) 4 ∷ []) 2 0) (0 ∷ 1 ∷ 2 ∷ 3 ∷ 4 ∷ []) (slot 2 (0 ∷ 1 ∷ []) ∷ slot 8 (0 ∷ 1 ∷ []) ∷ slot 11 (0 ∷ []) ∷ slot 16 (0 ∷ []) ∷ slot 18 (0 ∷ 1 ∷ []) ∷ [])
    ∷ places (resting_sheet (late 2 5 ([]) 4 ∷ late 1 4 ([]) 0 ∷ []) 2 0) (0 ∷ 1 ∷ []) (slot 4 (0 ∷ 1 ∷ []) ∷ slot 9 (0 ∷ []) ∷ [])
    ∷ places (resting_sheet (late 1 1 ([]) 4 ∷ late 1 6 ([]) 3 ∷ late 1 1 ([]) 0 ∷ []) 1 0) (0 ∷ 2 ∷ 1 ∷ []) (slot 4 (0 ∷ []) ∷ slot 6 (0 ∷ []) ∷ slot 5 (0 ∷ []) ∷ [])
    ∷ []

pub placed_right : all_hold placed ≡ true
unfolding placed sum largest every any joined over_wide ready first_minute start_of place_all orders_after earliest_of answer_of is_valid
placed_right = refl

pub plans : List Judged
plans =
    judged (resting_sheet (late 1 2 ([]) 2 ∷ late 1 2 ([]) 0 ∷ late 1 1 ([]) 3 ∷ late 1 2 ([]) 4 ∷ late 1 3 ([]) 4 ∷ []) 1 0) (slot 2 (0 ∷ []) ∷ slot 4 (0 ∷ []) ∷ slot 12 (0 ∷ []) ∷ slot 7 (0 ∷ []) ∷ slot 8 (0 ∷ []) ∷ []) false
    ∷ judged (resting_sheet (late 4 3 ([]) 2 ∷ late 1 2 ([]) 1 ∷ late 3 4 ([]) 2 ∷ late 4 2 ([]) 2 ∷ late 2 2 ([]) 1 ∷ []) 4 2) (slot 3 (0 ∷ 1 ∷ 2 ∷ 3 ∷ []) ∷ slot 11 (0 ∷ []) ∷ slot 15 (0 ∷ 1 ∷ 2 ∷ []) ∷ slot 7 (1 ∷ 2 ∷ 3 ∷ 4 ∷ []) ∷ slot 13 (1 ∷ 2 ∷ []) ∷ []) false
    ∷ judged (resting_sheet (late 1 6 ([]) 4 ∷ late 1 6 ([]) 2 ∷ late 1 4 (0 ∷ []) 4 ∷ []) 1 2) (slot 11 (0 ∷ []) ∷ slot 2 (0 ∷ []) ∷ slot 20 (0 ∷ []) ∷ []) true
    ∷ judged (resting_sheet (late 1 2 ([]) 4 ∷ late 1 6 ([]) 4 ∷ late 2 1 ([]) 3 ∷ late 2 6 ([]) 2 ∷ []) 2 2) (slot 6 (0 ∷ []) ∷ slot 19 (0 ∷ []) ∷ slot 8 (1 ∷ 2 ∷ []) ∷ slot 11 (0 ∷ 1 ∷ []) ∷ []) false
    ∷ judged (resting_sheet (late 1 2 ([]) 0 ∷ late 1 3 ([]) 4 ∷ late 1 2 ([]) 3 ∷ []) 1 1) (slot 0 (0 ∷ []) ∷ slot 6 (0 ∷ []) ∷ slot 3 (0 ∷ []) ∷ []) true
    ∷ judged (resting_sheet ([]) 2 0) ([]) true
    ∷ judged (resting_sheet ([]) 4 0) ([]) true
    ∷ judged (resting_sheet (late 3 5 ([]) 3 ∷ late 4 5 ([]) 4 ∷ late 1 1 (1 ∷ []) 1 ∷ late 3 4 (0 ∷ 1 ∷ []) 4 ∷ []) 4 0) (slot 10 (1 ∷ 2 ∷ 3 ∷ []) ∷ slot 4 (0 ∷ 1 ∷ 2 ∷ 3 ∷ []) ∷ slot 9 (0 ∷ []) ∷ slot 14 (0 ∷ 1 ∷ 2 ∷ []) ∷ []) false
    ∷ judged (resting_sheet ([]) 1 0) ([]) true
    ∷ judged (resting_sheet (late 3 4 ([]) 0 ∷ late 3 4 ([]) 4 ∷ late 2 4 ([]) 0 ∷ []) 3 0) (slot 8 (0 ∷ 1 ∷ 2 ∷ []) ∷ slot 6 (0 ∷ 1 ∷ 2 ∷ []) ∷ slot 14 (0 ∷ 1 ∷ []) ∷ []) false
    ∷ judged (resting_sheet (late 1 1 ([]) 1 ∷ late 1 1 ([]) 1 ∷ late 1 6 ([]) 2 ∷ []) 2 1) (slot 2 (1 ∷ []) ∷ slot 4 (1 ∷ []) ∷ slot 2 (0 ∷ []) ∷ []) true
    ∷ judged (resting_sheet (late 4 1 ([]) 1 ∷ late 2 6 ([]) 2 ∷ late 3 4 ([]) 0 ∷ late 2 3 ([]) 2 ∷ late 4 6 ([]) 1 ∷ []) 4 2) (slot 3 (1 ∷ 2 ∷ 3 ∷ 4 ∷ []) ∷ slot 6 (2 ∷ 3 ∷ []) ∷ slot 27 (0 ∷ 1 ∷ 2 ∷ []) ∷ slot 20 (0 ∷ 1 ∷ []) ∷ slot 11 (0 ∷ 1 ∷ 2 ∷ 3 ∷ []) ∷ []) false
    ∷ judged (resting_sheet (late 1 6 ([]) 1 ∷ late 3 5 ([]) 2 ∷ []) 3 1) (slot 8 (0 ∷ []) ∷ slot 2 (0 ∷ 1 ∷ 2 ∷ []) ∷ []) true
    ∷ judged (resting_sheet ([]) 4 0) ([]) true
    ∷ judged (resting_sheet (late 2 3 ([]) 2 ∷ late 1 1 ([]) 1 ∷ late 2 4 ([]) 2 ∷ []) 2 0) (slot 7 (0 ∷ 1 ∷ []) ∷ slot 6 (0 ∷ []) ∷ slot 2 (0 ∷ 1 ∷ []) ∷ []) true
    ∷ judged (resting_sheet (late 2 6 ([]) 1 ∷ late 3 1 ([]) 2 ∷ late 2 5 ([]) 1 ∷ []) 4 2) (slot 13 (0 ∷ 1 ∷ []) ∷ slot 9 (0 ∷ 1 ∷ 2 ∷ []) ∷ slot 1 (3 ∷ 4 ∷ []) ∷ []) false
    ∷ judged (resting_sheet (late 3 5 ([]) 2 ∷ []) 3 0) (slot 2 (0 ∷ 1 ∷ 2 ∷ []) ∷ []) true
    ∷ judged (resting_sheet (late 2 3 ([]) 3 ∷ late 2 3 ([]) 4 ∷ late 1 6 (0 ∷ []) 4 ∷ late 2 4 ([]) 1 ∷ late 1 3 ([]) 2 ∷ []) 2 0) (slot 11 (0 ∷ 1 ∷ []) ∷ slot 4 (0 ∷ 1 ∷ []) ∷ slot 14 (0 ∷ []) ∷ slot 7 (0 ∷ 1 ∷ []) ∷ slot 14 (1 ∷ []) ∷ []) true
    ∷ judged (resting_sheet (late 2 6 ([]) 3 ∷ late 2 6 ([]) 0 ∷ late 1 2 ([]) 1 ∷ late 1 1 ([]) 4 ∷ []) 2 0) (slot 12 (1 ∷ 2 ∷ []) ∷ slot 8 (0 ∷ 1 ∷ []) ∷ slot 4 (1 ∷ []) ∷ slot 4 (0 ∷ []) ∷ []) false
    ∷ judged (resting_sheet ([]) 1 1) ([]) true
    ∷ judged (resting_sheet (late 2 3 ([]) 1 ∷ []) 2 1) (slot 1 (0 ∷ 1 ∷ []) ∷ []) true
    ∷ judged (resting_sheet (late 1 5 ([]) 1 ∷ late 2 5 ([]) 3 ∷ late 4 6 ([]) 0 ∷ []) 4 1) (slot 7 (0 ∷ []) ∷ slot 7 (1 ∷ 2 ∷ []) ∷ slot 0 (0 ∷ 1 ∷ 2 ∷ 3 ∷ []) ∷ []) true
    ∷ judged (resting_sheet (late 2 5 ([]) 0 ∷ late 2 1 ([]) 1 ∷ late 1 3 ([]) 0 ∷ late 3 6 ([]) 4 ∷ late 3 1 ([]) 3 ∷ []) 3 1) (slot 17 (0 ∷ 1 ∷ []) ∷ slot 1 (0 ∷ 3 ∷ []) ∷ slot 11 (0 ∷ []) ∷ slot 5 (1 ∷ 2 ∷ []) ∷ slot 15 (1 ∷ 2 ∷ 3 ∷ []) ∷ []) false
    ∷ judged (resting_sheet (late 1 5 ([]) 0 ∷ late 2 4 (0 ∷ []) 4 ∷ late 2 1 (0 ∷ []) 3 ∷ late 1 4 (0 ∷ []) 4 ∷ late 2 3 (2 ∷ []) 3 ∷ []) 2 2) (slot 0 (0 ∷ []) ∷ slot 19 (0 ∷ 1 ∷ []) ∷ slot 13 (0 ∷ 1 ∷ []) ∷ slot 5 (1 ∷ []) ∷ slot 13 (0 ∷ 1 ∷ []) ∷ []) false
    ∷ judged (resting_sheet (late 4 5 ([]) 2 ∷ []) 4 2) (slot 4 (0 ∷ 1 ∷ 2 ∷ 3 ∷ []) ∷ []) true
    ∷ judged (resting_sheet ([]) 4 1) ([]) true
    ∷ judged (resting_sheet (late 1 5 ([]) 3 ∷ late 1 5 ([]) 0 ∷ late 1 1 ([]) 0 ∷ late 1 2 ([]) 3 ∷ late 1 5 ([]) 2 ∷ []) 1 1) (slot 5 (0 ∷ []) ∷ slot 20 (0 ∷ []) ∷ slot 17 (0 ∷ []) ∷ slot 15 (0 ∷ []) ∷ slot 9 (0 ∷ []) ∷ []) false
    ∷ judged (resting_sheet (late 2 6 ([]) 4 ∷ []) 2 0) (slot 4 (0 ∷ 1 ∷ []) ∷ []) true
    ∷ judged (resting_sheet (late 2 6 ([]) 3 ∷ late 1 6 ([]) 0 ∷ late 2 6 ([]) 4 ∷ []) 2 0) (slot 12 (0 ∷ 1 ∷ []) ∷ slot 0 (0 ∷ []) ∷ slot 6 (0 ∷ 1 ∷ []) ∷ []) true
    ∷ judged (resting_sheet (late 2 5 ([]) 4 ∷ []) 3 0) (slot 4 (0 ∷ 1 ∷ []) ∷ []) true
    ∷ judged (resting_sheet (late 2 2 ([]) 3 ∷ []) 4 0) (slot 3 (0 ∷ 1 ∷ []) ∷ []) true
    ∷ judged (resting_sheet (late 2 2 ([]) 3 ∷ []) 2 1) (slot 3 (0 ∷ 1 ∷ []) ∷ []) true
    ∷ judged (resting_sheet (late 3 6 ([]) 0 ∷ late 2 3 ([]) 3 ∷ late 1 2 ([]) 4 ∷ late 1 6 (2 ∷ []) 3 ∷ late 3 6 ([]) 4 ∷ []) 3 2) (slot 10 (0 ∷ 1 ∷ 2 ∷ []) ∷ slot 3 (0 ∷ 1 ∷ []) ∷ slot 24 (0 ∷ []) ∷ slot 26 (1 ∷ []) ∷ slot 16 (0 ∷ 1 ∷ 2 ∷ []) ∷ []) false
    ∷ judged (resting_sheet (late 2 1 ([]) 1 ∷ []) 3 0) (slot 1 (0 ∷ 1 ∷ []) ∷ []) true
    ∷ judged (resting_sheet ([]) 4 1) ([]) true
    ∷ judged (resting_sheet (late 1 3 ([]) 3 ∷ late 2 4 ([]) 1 ∷ late 1 3 (0 ∷ []) 4 ∷ late 2 5 (0 ∷ []) 0 ∷ late 2 2 (2 ∷ 3 ∷ []) 3 ∷ []) 4 0) (slot 3 (0 ∷ []) ∷ slot 8 (2 ∷ 3 ∷ []) ∷ slot 10 (2 ∷ []) ∷ slot 6 (0 ∷ 1 ∷ []) ∷ slot 13 (0 ∷ 1 ∷ []) ∷ []) false
    ∷ judged (resting_sheet (late 3 1 ([]) 1 ∷ late 1 2 ([]) 3 ∷ []) 3 0) (slot 2 (0 ∷ 1 ∷ 2 ∷ []) ∷ slot 3 (0 ∷ []) ∷ []) true
    ∷ judged (resting_sheet (late 3 1 ([]) 0 ∷ late 1 5 ([]) 4 ∷ late 3 6 ([]) 3 ∷ late 3 6 ([]) 1 ∷ []) 4 2) (slot 20 (0 ∷ 1 ∷ 2 ∷ []) ∷ slot 4 (0 ∷ []) ∷ slot 6 (1 ∷ 2 ∷ 3 ∷ []) ∷ slot 12 (0 ∷ 1 ∷ 2 ∷ []) ∷ []) false
    ∷ judged (resting_sheet (late 2 3 ([]) 3 ∷ late 3 2 ([]) 1 ∷ late 2 5 ([]) 1 ∷ late 2 5 (2 ∷ []) 2 ∷ []) 4 2) (slot 5 (0 ∷ 1 ∷ []) ∷ slot 1 (0 ∷ 1 ∷ 2 ∷ []) ∷ slot 4 (2 ∷ 3 ∷ []) ∷ slot 10 (1 ∷ []) ∷ []) false
    ∷ judged (resting_sheet (late 2 3 ([]) 2 ∷ late 1 5 (0 ∷ []) 2 ∷ late 2 5 ([]) 2 ∷ late 3 6 ([]) 2 ∷ []) 3 2) (slot 17 (0 ∷ 1 ∷ []) ∷ slot 20 (2 ∷ []) ∷ slot 10 (0 ∷ 1 ∷ []) ∷ slot 2 (0 ∷ 1 ∷ 2 ∷ []) ∷ []) true
    ∷ judged (resting_sheet (late 1 1 ([]) 0 ∷ []) 2 0) (slot 2 (0 ∷ []) ∷ []) true
    ∷ judged (resting_sheet (late 1 6 ([]) 1 ∷ []) 4 1) (slot 2 (0 ∷ []) ∷ []) true
    ∷ judged (resting_sheet ([]) 4 0) ([]) true
    ∷ judged (resting_sheet ([]) 3 1) ([]) true
    ∷ judged (resting_sheet (late 1 3 ([]) 2 ∷ []) 3 1) (slot 2 (2 ∷ []) ∷ []) true
    ∷ judged (resting_sheet ([]) 4 1) ([]) true
    ∷ judged (resting_sheet (late 3 4 ([]) 1 ∷ late 1 4 ([]) 1 ∷ late 4 6 ([]) 1 ∷ []) 4 0) (slot 1 (0 ∷ 1 ∷ 2 ∷ []) ∷ slot 11 (1 ∷ []) ∷ slot 5 (0 ∷ 1 ∷ 2 ∷ 3 ∷ []) ∷ []) true
    ∷ judged (resting_sheet ([]) 4 0) ([]) true
    ∷ judged (resting_sheet (late 2 1 ([]) 2 ∷ []) 3 0) (slot 2 (0 ∷ 1 ∷ []) ∷ []) true
    ∷ judged (resting_sheet (late 3 3 ([]) 3 ∷ late 1 5 ([]) 2 ∷ late 1 3 (0 ∷ []) 4 ∷ late 1 5 ([]) 2 ∷ late 1 4 ([]) 1 ∷ []) 3 1) (slot 8 (0 ∷ 1 ∷ 2 ∷ []) ∷ slot 3 (0 ∷ []) ∷ slot 12 (1 ∷ []) ∷ slot 12 (2 ∷ []) ∷ slot 12 ([]) ∷ []) false
    ∷ judged (resting_sheet (late 2 4 ([]) 2 ∷ late 2 4 ([]) 3 ∷ late 4 2 ([]) 3 ∷ []) 4 1) (slot 6 (0 ∷ 3 ∷ []) ∷ slot 6 (0 ∷ 1 ∷ []) ∷ slot 3 (0 ∷ 2 ∷ 3 ∷ 4 ∷ []) ∷ []) false
    ∷ judged (resting_sheet (late 2 3 ([]) 3 ∷ late 1 5 ([]) 4 ∷ late 1 5 (0 ∷ []) 0 ∷ late 3 1 (1 ∷ []) 0 ∷ late 1 6 (0 ∷ 2 ∷ 3 ∷ []) 0 ∷ []) 4 2) (slot 4 (1 ∷ 2 ∷ []) ∷ slot 4 (4 ∷ []) ∷ slot 11 (0 ∷ []) ∷ slot 8 (1 ∷ 2 ∷ 3 ∷ []) ∷ slot 16 ([]) ∷ []) false
    ∷ judged (resting_sheet (late 1 1 ([]) 1 ∷ late 1 1 (0 ∷ []) 4 ∷ []) 1 0) (slot 1 (0 ∷ []) ∷ slot 4 (0 ∷ []) ∷ []) true
    ∷ judged (resting_sheet (late 2 1 ([]) 0 ∷ late 3 5 ([]) 2 ∷ []) 3 0) (slot 0 (0 ∷ 1 ∷ []) ∷ slot 2 (0 ∷ 1 ∷ 2 ∷ []) ∷ []) true
    ∷ judged (resting_sheet (late 1 2 ([]) 0 ∷ []) 1 0) (slot 2 (0 ∷ []) ∷ []) true
    ∷ judged (resting_sheet ([]) 2 0) ([]) true
    ∷ judged (resting_sheet ([]) 4 0) ([]) true
    ∷ judged (resting_sheet (late 2 4 ([]) 2 ∷ late 2 6 ([]) 4 ∷ []) 3 0) (slot 1 (0 ∷ 1 ∷ []) ∷ slot 6 (1 ∷ []) ∷ []) false
    ∷ judged (resting_sheet (late 2 3 ([]) 1 ∷ late 1 5 ([]) 0 ∷ late 3 1 (1 ∷ []) 3 ∷ []) 3 0) (slot 1 (0 ∷ 1 ∷ []) ∷ slot 1 (2 ∷ []) ∷ slot 7 (0 ∷ 1 ∷ 2 ∷ []) ∷ []) true
    ∷ judged (resting_sheet (late 1 5 ([]) 1 ∷ []) 3 0) (slot 1 (0 ∷ []) ∷ []) true
    ∷ []

pub plans_right : all_judged plans ≡ true
unfolding plans sum largest every any joined over_wide ready first_minute start_of place_all orders_after earliest_of answer_of is_valid
plans_right = refl
