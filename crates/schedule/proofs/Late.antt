-- The area bound from a minute on: what the jobs keep behind that minute has room between it and the plan's end with the rest behind it.
use mathlib.Core.Path.{◌≡◌, refl, sym, ap, ◌∙◌}
use mathlib.Core.Logic.{◌⊎◌, inl, inr}
use mathlib.Core.Bool.{Bool, true, false}
use Prim.Native.Nat.{ℕ, ◌+◌, ◌-◌, ◌*◌, ◌≤◌, ◌<◌, zero-le, max, min}
use native.Mathlib.Omega.{arith}
use native.Mathlib.Nat.{le_trans, le_of_eq, mul-le-mul_left, mul_comm}
use lib.Dec.{leb}
use borrow.Author.Tests.{leb-true, ltb-true, le-leb, lt-ltb}
use Rattle.counting.specs.Counting.{only, sum}
use Rattle.counting.proofs.Tests.{true-or-false, clash, and_left, and_right, and_both, only_mono}
use Rattle.counting.proofs.Sums.{sum-le, sum_same, sum_swap, sum-zero}
use Rattle.counting.proofs.Intervals.{inside, sum_inside}
use Rattle.counting.proofs.Ranges.{le-largest}
use Rattle.schedule.specs.Plan.{Sheet, Plan, finish, plan_end}
use Rattle.schedule.specs.Bounds.{kept}
use Rattle.schedule.proofs.Timed.{runs, runs_on, Timed}

module _ (S : Sheet) (Q : Plan) (v : Timed S Q) (C : ℕ) (e : plan_end S Q + S.rest ≤ C) (a : ℕ) where
  -- job k keeps its modules at minute t, behind minute a
  abbrev behind : ℕ → ℕ → Bool
  behind t k = inside (max a (Q.start k)) (Q.start k + kept S k) t

  minute : (t : ℕ) → sum S.jobs (λ k. only (behind t k) (S.need k)) ≤ only (inside a C t) S.modules
  minute t = go (inside a C t) refl
    where
      counted : (k : ℕ) → only (behind t k) (S.need k) ≤ only (runs S Q t k) (S.need k)
      counted k = only_mono (behind t k) (runs S Q t k) (S.need k) (λ b.
          let x = leb-true (max a (Q.start k)) t (and_left (leb (max a (Q.start k)) t) _ b) in
          let y = ltb-true t (Q.start k + kept S k) (and_right (leb (max a (Q.start k)) t) _ b) in
          runs_on S Q k t (omega arith) (omega arith))

      go : (b : Bool) → inside a C t ≡ b → sum S.jobs (λ k. only (behind t k) (S.need k)) ≤ only (inside a C t) S.modules
      go true q = rw q (le_trans (sum-le S.jobs _ _ (λ k l. counted k)) (v.room t))
      go false q =
          let none = sum_same S.jobs (λ k. only (behind t k) (S.need k)) (λ k. 0) (λ k l. idle k l (true-or-false (behind t k))) in
          rw (none ∙ sum-zero S.jobs) zero-le
        where
          idle : (k : ℕ) → k < S.jobs → (behind t k ≡ true) ⊎ (behind t k ≡ false) → only (behind t k) (S.need k) ≡ 0
          idle k l (inr b) = rw b refl
          idle k l (inl b) =
              let x = leb-true (max a (Q.start k)) t (and_left (leb (max a (Q.start k)) t) _ b) in
              let y = ltb-true t (Q.start k + kept S k) (and_right (leb (max a (Q.start k)) t) _ b) in
              let by = le-largest S.jobs (finish S Q) k l in
              clash (inside a C t) (and_both _ _ (le-leb a t (omega arith)) (lt-ltb t C (omega (arith, e)))) q

  -- Each job is behind minute a for some minutes; together they need no more modules than there are from then up to the end.
  pub late_bound : (busy : ℕ → ℕ) → ((k : ℕ) → k < S.jobs → busy k ≤ Q.start k + kept S k - max a (Q.start k))
      → sum S.jobs (λ k. S.need k * busy k) ≤ S.modules * (C - a)
  late_bound busy h =
      let jobs = sum-le S.jobs (λ k. S.need k * busy k) (λ k. sum C (λ t. only (behind t k) (S.need k))) over in
      let swap = sum_swap S.jobs C (λ k t. only (behind t k) (S.need k)) in
      let minutes = sum-le C (λ t. sum S.jobs (λ k. only (behind t k) (S.need k))) (λ t. only (inside a C t) S.modules) (λ t l. minute t) in
      let all : sum C (λ t. only (inside a C t) S.modules) ≡ S.modules * (C - a) =
      sum_inside C a C S.modules ∙ mul_comm _ S.modules ∙ ap (λ (x : ℕ). S.modules * x) (omega arith) in
      omega (arith, jobs, swap, minutes, all)
    where
      over : (k : ℕ) → k < S.jobs → S.need k * busy k ≤ sum C (λ t. only (behind t k) (S.need k))
      over k l =
          let d : busy k ≤ min C (Q.start k + kept S k) - max a (Q.start k) = omega (arith, h k l, e, le-largest S.jobs (finish S Q) k l) in
          le_trans (mul-le-mul_left (S.need k) d)
          (le_of_eq (mul_comm (S.need k) _ ∙ sym (sum_inside C (max a (Q.start k)) (Q.start k + kept S k) (S.need k))))
