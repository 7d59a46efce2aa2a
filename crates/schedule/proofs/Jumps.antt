-- How a program knows a start: no earlier than the job may start, no later than it does, and with room by the sum of needs.
use mathlib.Core.Path.{◌≡◌}
use Prim.Native.Nat.{ℕ, ◌+◌, ◌≤◌}
use native.Mathlib.Omega.{arith}
use native.Mathlib.Nat.{le_antisymm}
use Rattle.counting.specs.Counting.{only}
use Rattle.counting.proofs.Ranges.{le-largest}
use Rattle.schedule.specs.Plan.{Sheet, finish}
use Rattle.schedule.specs.ListPlan.{PartPlan, not_before, start_of, occupied}
use Rattle.schedule.specs.PartPlans.{Sound}
use Rattle.schedule.proofs.Starts.{start-le}
use Rattle.schedule.proofs.Occupied.{sum_room}

pub start_here : (S : Sheet) (P : PartPlan) → Sound S P → (j t : ℕ) → not_before S P j ≤ t → t ≤ start_of S P j
    → occupied S P t + S.need j ≤ S.modules → start_of S P j ≡ t
start_here S P h j t e l f =
    let from : P.last ≤ t = omega arith in
    le_antisymm
    (start-le S P j t (record {
      later = from;
      arrived = omega arith;
      after = λ i k b. omega (arith, rw b at (le-largest S.jobs (λ i. only (S.before i j) (finish S P.plan i)) i k));
      room = sum_room S P h j t from f;
    }))
    l
