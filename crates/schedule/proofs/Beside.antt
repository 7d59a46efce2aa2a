-- A job beside the placed ones: at a minute from which on it may start, and at which none runs but it and them, the modules are enough.
use mathlib.Core.Path.{◌≡◌, refl}
use mathlib.Core.Logic.{◌⊎◌, inl, inr, ◌≢◌}
use mathlib.Core.Bool.{Bool, true, false}
use Prim.Native.Nat.{ℕ, ◌+◌, ◌≤◌, ◌<◌, zero-le}
use native.Mathlib.Omega.{arith}
use native.Mathlib.Nat.{le_trans}
use lib.Dec.{eqb}
use borrow.Author.Tests.{eqb-false, lt-ltb}
use Rattle.counting.specs.Counting.{only}
use Rattle.counting.proofs.Tests.{true-or-false, and_both, only_mono, only-le}
use Rattle.counting.proofs.Sums.{sum-le, sum-add, sum_single}
use Rattle.schedule.specs.Plan.{Sheet, Plan, finish}
use Rattle.schedule.specs.ListPlan.{PartPlan, occupies, MayStart, occupied}
use Rattle.schedule.specs.PartPlans.{Sound}
use Rattle.schedule.proofs.Occupied.{occupied_falls, room-sum}
use Rattle.schedule.proofs.Timed.{runs, runs_to, runs-not_yet, load}

-- Q keeps the placed jobs of P, and job i may start at minute s
module _ (S : Sheet) (P : PartPlan) (h : Sound S P) (i s : ℕ) (job : i < S.jobs) (may : MayStart S P i s) (Q : Plan)
    (kept : (k : ℕ) → k < S.jobs → P.placed k ≡ true → Q.start k ≡ P.plan.start k) where
  module _ (t : ℕ) (from : s ≤ t) (later : (k : ℕ) → k < S.jobs → P.placed k ≡ false → k ≢ i → t < Q.start k) where
    beside : (k : ℕ) → k < S.jobs → (b : Bool) → eqb k i ≡ b → (P.placed k ≡ true) ⊎ (P.placed k ≡ false)
        → only (runs S Q t k) (S.need k) ≤ only (occupies S P t k) (S.need k) + only (eqb k i) (S.need k)
    beside k l true e p = le_trans {m = S.need k} (only-le (runs S Q t k) (S.need k)) (rw e (omega arith))
    beside k l false e (inl p) =
        le_trans {m = only (occupies S P t k) (S.need k)}
        (only_mono (runs S Q t k) (occupies S P t k) (S.need k) (λ x.
        let y = runs_to S Q k t x in
        and_both (P.placed k) _ p (lt-ltb t (finish S P.plan k + S.rest) (omega (arith, kept k l p)))))
        (omega arith)
    beside k l false e (inr p) = rw (runs-not_yet S Q k t (later k l p (eqb-false k i e))) zero-le

    pub beside-room : load S Q t ≤ S.modules
    unfolding occupied
    beside-room =
        let each = sum-le S.jobs (λ k. only (runs S Q t k) (S.need k)) _
        (λ k l. beside k l (eqb k i) refl (true-or-false (P.placed k))) in
        omega (
          arith,
          each,
          sum-add S.jobs (λ k. only (occupies S P t k) (S.need k)) (λ k. only (eqb k i) (S.need k)),
          sum_single S.jobs S.need i job,
          occupied_falls S P s t from,
          room-sum S P h i s may,
        )
