-- F-5: the least module count with which some valid plan ends by minute t, and the card that planning gives for that count.
use Rattle.std.specs.Prelude.{cond, List, ◌∷◌, ◌++◌, ℕ, eqb, ltb, length}
use Rattle.figures.specs.Figures.{most_modules}
use Rattle.checking.specs.Checking.{Check, first_failing}
use Rattle.schedule.specs.Plan.{Sheet}
use Rattle.schedule.specs.Cabinets.{with_modules}
use Rattle.sheet.specs.Read.{read_checks}
use Rattle.sheet.specs.Write.{over}
use Rattle.planable.specs.Planable.{sheet_in, no_order, work_after}
use Rattle.planner.specs.Planning.{room_checks, best_card}
use Rattle.cabinets.specs.Counts.{least_count}
use Rattle.sizing.specs.declared.Sized.{Sized}

-- "20 when no count from 1 to 64 serves, checked after 9 and before 10"; "8 is not checked here"
abbrev pub count_checks : Sheet → ℕ → ℕ → List Check
count_checks S t room = (9, no_order S) ∷ (20, ltb most_modules (least_count S t)) ∷ room_checks S room

unfoldable pub count_refusal : Sheet → ℕ → ℕ → ℕ
count_refusal S t room = first_failing (count_checks S t room)

-- 1 to 3, 19, 4 to 7, and then 9, 20 and 10
abbrev pub size_checks : List ℕ → ℕ → ℕ → List Check
size_checks s t room = read_checks s ++ count_checks (sheet_in s) t room

unfoldable pub size_refusal : List ℕ → ℕ → ℕ → ℕ
size_refusal s t room = first_failing (size_checks s t room)

-- the answer: the count; refused: the number, and the count 0
unfoldable pub size_answer : List ℕ → ℕ → ℕ → Sized
size_answer s t room =
    cond (eqb (size_refusal s t room) 0)
    (record { refusal = 0; modules = least_count (sheet_in s) t })
    (record { refusal = size_refusal s t room; modules = 0 })

-- the lent card afterwards: "the card that planning gives for that count" over its front; refused: as before
unfoldable pub size_card_after : List ℕ → ℕ → List ℕ → List ℕ
size_card_after s t card =
    cond (eqb (size_refusal s t (length card)) 0)
    (over (best_card (with_modules (sheet_in s) (least_count (sheet_in s) t))) card)
    card

-- "Working memory is left as in planning": a call refused with 20 has written no byte of it
abbrev pub size_work_after : List ℕ → ℕ → ℕ → List ℕ → List ℕ
size_work_after s t room work = work_after (size_refusal s t room) work
