-- The desks that an answered opening and later calls can leave.
use Rattle.std.specs.Prelude.{◌≡◌, ◌⊎◌, List, ℕ, ◌+◌, ◌-◌, ◌≤◌, ◌<◌}
use Rattle.checking.specs.Checking.{first_failing}
use Rattle.desk.specs.declared.Desk.{Desk}
use Rattle.desk.specs.Desk.{holding, new_desk, with_holding, with_figures}
use Rattle.desk.specs.Checks.{open_checks, booking_checks, return_checks, figure_checks}

-- An answered opening, then later calls: a claim or a hand-back by a controller of the desk, or a change of its figures, of which no check
-- fails. Refused calls and looks leave the desk, so they add none.
pub data Reachable : Desk → Type 0 where
  opening : (limit : ℕ) (assured ceilings : List ℕ) → first_failing (open_checks limit assured ceilings) ≡ 0
      → Reachable (new_desk limit assured ceilings)
  claiming : {d : Desk} → Reachable d → (c k : ℕ) → c < d.count → first_failing (booking_checks d c k) ≡ 0
      → Reachable (with_holding d c (holding d c + k))
  handing_back : {d : Desk} → Reachable d → (c k : ℕ) → c < d.count → first_failing (return_checks d c k) ≡ 0
      → Reachable (with_holding d c (holding d c - k))
  changing : {d : Desk} → Reachable d → (limit : ℕ) (assured ceilings : List ℕ)
      → first_failing (figure_checks d limit assured ceilings) ≡ 0 → Reachable (with_figures d limit assured ceilings)

-- 14: "The controller … number is not below the count of controllers …,
-- or the desk is one that no answered opening and later calls can leave."
abbrev pub Barred : Desk → ℕ → Type 0
Barred d c = (d.count ≤ c) ⊎ (Reachable d → ⊥)
