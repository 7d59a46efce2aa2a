-- The bound by weights: where no set of jobs that fits on x modules weighs more than K x, the jobs that are left weigh, minute by minute,
-- no more than K of what the placed jobs leave free. A job is counted for as long as it keeps its modules, so up to the plan's end and the
-- rest behind it. With the widths as weights it is the area bound.
use mathlib.Core.Path.{◌≡◌, refl, sym, ap, ◌∙◌}
use mathlib.Core.Logic.{◌⊎◌, inl, inr}
use mathlib.Core.Bool.{Bool, true, false, not, ◌&&◌}
use Prim.Native.Nat.{ℕ, ◌+◌, ◌-◌, ◌*◌, ◌≤◌, ◌<◌, zero-le, min}
use native.Mathlib.Omega.{arith}
use lib.Dec.{leb, ltb}
use borrow.Author.Tests.{ltb-true, lt-ltb, le-leb, lt-leb}
use Rattle.counting.specs.Counting.{only, sum, Holds}
use Rattle.counting.proofs.Tests.{true-or-false, less-or-not, and_left, and_right, and_both, only_mono}
use Rattle.counting.proofs.Sums.{sum-le, sum_same, sum-add, sum_swap, sum-zero}
use Rattle.counting.proofs.Intervals.{inside, sum_inside}
use Rattle.counting.proofs.Ranges.{le-largest}
use Rattle.schedule.specs.Plan.{Sheet, Plan, finish, plan_end}
use Rattle.schedule.specs.ListPlan.{PartPlan, occupies, occupied}
use Rattle.schedule.specs.Bounds.{kept}
use Rattle.schedule.proofs.Timed.{runs, Timed}

-- Q goes on from P: it keeps the placed jobs and starts the others from minute l on
pub record GoesOn (S : Sheet) (P : PartPlan) (l : ℕ) (Q : Plan) : Type 0 where
  pub timed : Timed S Q
  pub kept : (k : ℕ) → k < S.jobs → P.placed k ≡ true → Q.start k ≡ P.plan.start k
  pub early : (k : ℕ) → k < S.jobs → P.placed k ≡ true → P.plan.start k ≤ l
  pub later : (k : ℕ) → k < S.jobs → P.placed k ≡ false → l ≤ Q.start k

module _ (S : Sheet) (P : PartPlan) (l : ℕ) (Q : Plan) (h : GoesOn S P l Q) where
  -- job k is one of those that are left, and it keeps its modules at minute t
  abbrev pub left : ℕ → ℕ → Bool
  left t k = not (P.placed k) && inside (Q.start k) (Q.start k + kept S k) t

  -- at a minute, what is left beside what is placed
  pub beside : (t : ℕ) → l ≤ t → sum S.jobs (λ k. only (left t k) (S.need k)) + occupied S P t ≤ S.modules
  unfolding occupied
  beside t m =
      let each = sum-le S.jobs (λ k. only (left t k) (S.need k) + only (occupies S P t k) (S.need k)) (λ k. only (runs S Q t k)
      (S.need k))
      (λ k x. one k x (true-or-false (P.placed k))) in
      omega (arith, each, sum-add S.jobs (λ k. only (left t k) (S.need k)) (λ k. only (occupies S P t k) (S.need k)), h.timed.room t)
    where
      one : (k : ℕ) → k < S.jobs → (P.placed k ≡ true) ⊎ (P.placed k ≡ false)
          → only (left t k) (S.need k) + only (occupies S P t k) (S.need k) ≤ only (runs S Q t k) (S.need k)
      one k x (inl p) =
          let on = only_mono (ltb t (finish S P.plan k + S.rest)) (runs S Q t k) (S.need k) (λ b.
          let z = ltb-true t (finish S P.plan k + S.rest) b in
          let s = h.kept k x p in
          and_both _ _ (le-leb (Q.start k) t (omega (arith, h.early k x p))) (lt-ltb t (finish S Q k + S.rest) (omega arith))) in
          rw p (omega (arith, on))
      one k x (inr p) =
          let on = only_mono (inside (Q.start k) (Q.start k + kept S k) t) (runs S Q t k) (S.need k) (λ b.
          let z = ltb-true t (Q.start k + kept S k) (and_right (leb (Q.start k) t) _ b) in
          and_both _ _ (and_left (leb (Q.start k) t) _ b) (lt-ltb t (finish S Q k + S.rest) (omega arith))) in
          rw p (omega (arith, on))

  -- what is left at a minute weighs no more than the free modules hold
  pub minute_weight : (y K : ℕ → ℕ) → Holds S.need S.jobs S.modules y K → (t : ℕ)
      → sum S.jobs (λ k. only (left t k) (y k)) ≤ only (leb l t) (K (S.modules - occupied S P t))
  minute_weight y K most t = one (less-or-not t l)
    where
      zero : t < l → (k : ℕ) → k < S.jobs → (P.placed k ≡ true) ⊎ (P.placed k ≡ false) → only (left t k) (y k) ≡ 0
      zero m k x (inl p) = rw p refl
      zero m k x (inr p) = rw (p, lt-leb (Q.start k) t (omega (arith, h.later k x p))) refl

      one : (t < l) ⊎ (l ≤ t) → sum S.jobs (λ k. only (left t k) (y k)) ≤ only (leb l t) (K (S.modules - occupied S P t))
      one (inr m) = rw (le-leb l t m) (most (left t) (S.modules - occupied S P t) (omega arith) (omega (arith, beside t m)))
      one (inl m) =
          let none : sum S.jobs (λ k. only (left t k) (y k)) ≡ 0 =
          sum_same S.jobs _ (λ k. 0) (λ k x. zero m k x (true-or-false (P.placed k))) ∙ sum-zero S.jobs in
          rw none zero-le

module _ (S : Sheet) (P : PartPlan) (l : ℕ) (Q : Plan) (h : GoesOn S P l Q) (C : ℕ) (e : plan_end S Q + S.rest ≤ C) where
  abbrev left_at : ℕ → ℕ → Bool
  left_at = left S P l Q h

  -- over all minutes a job that is left weighs the minutes for which it keeps its modules
  over_minutes : (y : ℕ → ℕ) (k : ℕ) → k < S.jobs
      → only (not (P.placed k)) (kept S k * y k) ≡ sum C (λ t. only (left_at t k) (y k))
  over_minutes y k m = go (not (P.placed k)) refl
    where
      go : (b : Bool) → not (P.placed k) ≡ b → only (not (P.placed k)) (kept S k * y k) ≡ sum C (λ t. only (left_at t k) (y k))
      go true q =
          let d : min C (Q.start k + kept S k) - Q.start k ≡ kept S k = omega (arith, e, le-largest S.jobs (finish S Q) k m) in
          rw q (ap (λ (x : ℕ). x * y k) (sym d) ∙ sym (sum_inside C (Q.start k) (Q.start k + kept S k) (y k)))
      go false q = rw q (sym (sum-zero C))

  -- The jobs that are left weigh no more than the free modules hold.
  pub weights_bound : (y K : ℕ → ℕ) → Holds S.need S.jobs S.modules y K
      → sum S.jobs (λ k. only (not (P.placed k)) (kept S k * y k)) ≤ sum C (λ t. only (leb l t) (K (S.modules - occupied S P t)))
  weights_bound y K most =
      let all = sum_same S.jobs _ (λ k. sum C (λ t. only (left_at t k) (y k))) (over_minutes y)
      ∙ sum_swap S.jobs C (λ k t. only (left_at t k) (y k)) in
      let each = sum-le C (λ t. sum S.jobs (λ k. only (left_at t k) (y k))) (λ t. only (leb l t) (K (S.modules - occupied S P t)))
      (λ t x. minute_weight S P l Q h y K most t) in
      omega (arith, all, each)
