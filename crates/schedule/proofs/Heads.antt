-- Heads: no job of a plan starts before its head.
use Prim.Native.Nat.{ℕ, zero, suc, ◌+◌, ◌≤◌, ◌<◌, zero-le}
use native.Mathlib.Omega.{arith}
use Rattle.counting.specs.Counting.{only}
use Rattle.counting.proofs.Tests.{only_within}
use Rattle.counting.proofs.Ranges.{largest-le}
use Rattle.schedule.specs.Plan.{Sheet, Plan}
use Rattle.schedule.specs.Bounds.{head}
use Rattle.schedule.proofs.Timed.{Timed}

pub head-le : (S : Sheet) (Q : Plan) → Timed S Q → (k j : ℕ) → j < S.jobs → head S k j ≤ Q.start j
unfolding head
head-le S Q v zero j l = zero-le
head-le S Q v (suc k) j l =
    let waits = largest-le S.jobs (λ i. only (S.before i j) (head S k i + S.minutes i)) (Q.start j)
    (λ i m. only_within (S.before i j) _ _ (λ b. omega (arith, v.after i j m l b, head-le S Q v k i m))) in
    omega (arith, v.arrived j l, waits)
