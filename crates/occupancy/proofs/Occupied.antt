-- F-8: in a valid plan the module-minutes that jobs occupy are the modules times the minutes of each job, added up; and no plan occupies more than
-- the cabinet has.
use mathlib.Core.Path.{◌≡◌, refl, sym, ap, ◌∙◌}
use mathlib.Core.Logic.{◌⊎◌, inl, inr, ⊎_elim, ◌≢◌}
use mathlib.Core.Bool.{Bool, true, false, ◌&&◌}
use Prim.Native.Nat.{ℕ, ◌-◌, ◌*◌, ◌≤◌, ◌<◌, min}
use native.Mathlib.Omega.{arith}
use native.Mathlib.Nat.{mul_comm}
use lib.Dec.{leb}
use borrow.Author.Tests.{leb-true, ltb-true}
use Rattle.counting.specs.Counting.{only, sum, count}
use Rattle.counting.proofs.Tests.{true-or-false, and_left, and_right, same_or_not}
use Rattle.counting.proofs.Sums.{sum_same, sum_most, sum_swap}
use Rattle.counting.proofs.Counts.{count-le, count_one, count_none, any-le-count, only-count}
use Rattle.counting.proofs.Ranges.{le-largest, any_none}
use Rattle.counting.proofs.Intervals.{inside, sum_inside}
use Rattle.schedule.specs.Plan.{Sheet, Plan, Valid, finish, plan_end}
use Rattle.occupancy.specs.Occupancy.{runs_on, occupied_minutes, cabinet_minutes, work_in}

module _ (S : Sheet) (P : Plan) (v : Valid S P) where
  -- job j runs on module m at minute t
  abbrev here : ℕ → ℕ → ℕ → Bool
  here t m j = inside (P.start j) (finish S P j) t && P.uses j m

  -- one job at the most
  one-job : (t m : ℕ) → count S.jobs (here t m) ≤ 1
  one-job t m = count_one S.jobs (here t m) (λ i k l n a b. same i k l n a b (same_or_not i k))
    where
      same : (i k : ℕ) → i < S.jobs → k < S.jobs → here t m i ≡ true → here t m k ≡ true → (i ≡ k) ⊎ (i ≢ k) → i ≡ k
      same i k l n a b (inl e) = e
      same i k l n a b (inr d) =
          let ra = and_left (inside (P.start i) (finish S P i) t) _ a in
          let rb = and_left (inside (P.start k) (finish S P k) t) _ b in
          let a1 = leb-true (P.start i) t (and_left (leb (P.start i) t) _ ra) in
          let a2 = ltb-true t (finish S P i) (and_right (leb (P.start i) t) _ ra) in
          let b1 = leb-true (P.start k) t (and_left (leb (P.start k) t) _ rb) in
          let b2 = ltb-true t (finish S P k) (and_right (leb (P.start k) t) _ rb) in
          ⊎_elim (λ x. absurd (omega arith)) (λ x. absurd (omega arith))
          (v.apart i k m l n d (and_right (inside (P.start i) (finish S P i) t) _ a) (and_right (inside (P.start k) (finish S P k) t) _ b))

  counted : (t m : ℕ) → only (runs_on S P t m) 1 ≡ count S.jobs (here t m)
  counted t m = go (true-or-false (runs_on S P t m))
    where
      go : (runs_on S P t m ≡ true) ⊎ (runs_on S P t m ≡ false) → only (runs_on S P t m) 1 ≡ count S.jobs (here t m)
      go (inl e) = let x : only (runs_on S P t m) 1 ≡ 1 = rw e refl in omega (arith, x, one-job t m, any-le-count S.jobs (here t m))
      go (inr e) =
          let x : only (runs_on S P t m) 1 ≡ 0 = rw e refl in
          omega (arith, x, count_none S.jobs (here t m) (λ i l. any_none S.jobs (here t m) e i l))

  -- what job j occupies
  by-job : (j : ℕ) → j < S.jobs → sum (plan_end S P) (λ t. sum S.modules (λ m. only (here t m j) 1)) ≡ S.need j * S.minutes j
  by-job j l =
      let each = sum_same (plan_end S P) (λ t. sum S.modules (λ m. only (here t m j) 1))
      (λ t. only (inside (P.start j) (finish S P j) t) (S.need j))
      (λ t x. sym (only-count (inside (P.start j) (finish S P j) t) S.modules (P.uses j))
      ∙ ap (λ (c : ℕ). only (inside (P.start j) (finish S P j) t) c) (v.enough j l)) in
      let last : min (plan_end S P) (finish S P j) - P.start j ≡ S.minutes j = omega (arith, le-largest S.jobs (finish S P) j l) in
      each ∙ sum_inside (plan_end S P) (P.start j) (finish S P j) (S.need j) ∙ ap (λ (d : ℕ). d * S.need j) last ∙ mul_comm (S.minutes j) (S.need j)

  pub occupied_is : occupied_minutes S P ≡ work_in S
  unfolding occupied_minutes work_in
  occupied_is =
      sum_same (plan_end S P) (λ t. count S.modules (runs_on S P t)) (λ t. sum S.jobs (λ j. sum S.modules (λ m. only (here t m j) 1)))
      (λ t x. sum_same S.modules (λ m. only (runs_on S P t m) 1) (λ m. count S.jobs (here t m)) (λ m y. counted t m)
      ∙ sum_swap S.modules S.jobs (λ m j. only (here t m j) 1))
      ∙ sum_swap (plan_end S P) S.jobs (λ t j. sum S.modules (λ m. only (here t m j) 1))
      ∙ sum_same S.jobs (λ j. sum (plan_end S P) (λ t. sum S.modules (λ m. only (here t m j) 1))) (λ j. S.need j * S.minutes j) by-job

-- the area up to the plan's end has room for no more
pub occupied_fits : (S : Sheet) (P : Plan) → occupied_minutes S P ≤ cabinet_minutes S P
unfolding occupied_minutes cabinet_minutes
occupied_fits S P =
    omega (
      arith,
      sum_most (plan_end S P) (λ t. count S.modules (runs_on S P t)) S.modules (λ t l. count-le S.modules (runs_on S P t)),
      mul_comm (plan_end S P) S.modules,
    )
