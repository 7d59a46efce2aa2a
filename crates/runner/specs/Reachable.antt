-- The runners that an accepted start and later steps can leave.
use Rattle.std.specs.Prelude.{◌≡◌, false, List, ℕ}
use Rattle.desk.specs.declared.Desk.{Desk}
use Rattle.desk.specs.Checks.{not_of_desk}
use Rattle.assurance.specs.Minutes.{first_refusal}
use Rattle.runner.specs.declared.Runner.{Runner}
use Rattle.runner.specs.Runner.{new_runner, start_refusal, due_now, next_minute}

-- An accepted start, then steps on whatever desks, of which no call is refused. Refused steps leave the runner, so they add none.
-- (`runner_when`: the test `runner_ok` is true of these and of no others.)
pub data LeftBySteps : Runner → Type 0 where
  starting : (s card : List ℕ) (d : Desk) (c size : ℕ) → start_refusal s card d c size ≡ 0 → LeftBySteps (new_runner s card c size)
  stepping : {r : Runner} → LeftBySteps r → (d : Desk) → not_of_desk d r.controller ≡ false → first_refusal d (due_now r) ≡ 0
      → LeftBySteps (next_minute r)
