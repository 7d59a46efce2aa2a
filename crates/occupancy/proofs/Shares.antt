-- The use of the cabinet in a plan: there is something to divide by, and the figures say what F-8 asks.
use mathlib.Core.Path.{◌≡◌, sym, ap, ap₂, ◌∙◌}
use Prim.Native.Nat.{ℕ, ◌+◌, ◌*◌, ◌/◌, ◌%◌, ◌^◌, ◌≤◌, ◌<◌}
use native.Mathlib.Omega.{arith}
use native.Mathlib.Nat.{mul_comm, mul-pos, mul-le-mul_left, mul-le-mul_right, le_trans, div-add-mod, div-le_of_le-mul, mod-lt}
use mathlib.Core.List.{List}
use Rattle.counting.specs.Counting.{sum}
use Rattle.counting.proofs.Sums.{sum_same, sum_most}
use Rattle.counting.proofs.Ranges.{le-largest}
use Rattle.figures.specs.Figures.{most_modules, most_minutes}
use Rattle.schedule.specs.Plan.{Sheet, Plan, Valid, Lasting, finish, plan_end}
use Rattle.schedule.proofs.Same.{SameJobs}
use Rattle.tables.specs.declared.Jobs.{Jobs}
use Rattle.tables.specs.Tables.{sheet_of, Fit, count_of, need_at, minutes_at}
use Rattle.occupancy.specs.Occupancy.{occupied_minutes, cabinet_minutes, work_in, share_of, usage_of, UsedFor}
use Rattle.occupancy.proofs.Occupied.{occupied_is, occupied_fits}

-- ---- of a plan

-- with a job the end is above 0
pub end-some : (S : Sheet) (P : Plan) → Lasting S → 0 < S.jobs → 0 < plan_end S P
end-some S P l some = omega (arith, l 0 some, le-largest S.jobs (finish S P) 0 some)

-- and so is the product
pub whole-some : (S : Sheet) (P : Plan) → Lasting S → 0 < S.jobs → 0 < S.modules → 0 < cabinet_minutes S P
unfolding cabinet_minutes
whole-some S P l some modules = mul-pos modules (end-some S P l some)

-- "a thousand times the occupied module-minutes is the per mille times that product plus the remainder, which is smaller than the product"
pub used_for : (S : Sheet) (P : Plan) → Valid S P → 0 < cabinet_minutes S P → UsedFor S P (usage_of S P)
used_for S P v some = record {
  work = occupied_is S P v;
  whole = sym (div-add-mod (1000 * x) y) ∙ ap (λ (n : ℕ). n + 1000 * x % y) (mul_comm y (1000 * x / y));
  less = mod-lt (1000 * x) some;
  most = div-le_of_le-mul y (omega (arith, occupied_fits S P));
}
  where
    x : ℕ
    x = occupied_minutes S P

    y : ℕ
    y = cabinet_minutes S P

-- the figures depend on nothing of a valid plan but its end
pub usage_is : (S : Sheet) (P : Plan) → Valid S P → usage_of S P ≡ share_of (work_in S) (S.modules * plan_end S P)
unfolding cabinet_minutes
usage_is S P v = ap (λ (x : ℕ). share_of x (S.modules * plan_end S P)) (occupied_is S P v)

-- ---- of the table

pub work_same : {S T : Sheet} → SameJobs S T → work_in S ≡ work_in T
unfolding work_in
work_same {S} {T} h =
    sum_same S.jobs (λ j. S.need j * S.minutes j) (λ j. T.need j * T.minutes j) (λ j l. ap₂ (λ (a b : ℕ). a * b) (h.need j l) (h.minutes j l))
    ∙ ap (λ (n : ℕ). sum n (λ j. T.need j * T.minutes j)) h.jobs

module _ (t : Jobs) (fit : Fit t) where
  -- what a job occupies
  pub job-work : (i : ℕ) → i < count_of t → need_at t i * minutes_at t i ≤ most_modules * most_minutes
  job-work i l =
      let w : need_at t i ≤ most_modules = omega (arith, fit.narrow i l, fit.most) in
      le_trans (mul-le-mul_left (need_at t i) (fit.short i l)) (mul-le-mul_right most_minutes w)

  -- a thousand times the work is a number of 32 bits
  pub work_small : 1000 * work_in (sheet_of t) < 2 ^ 32
  unfolding work_in
  work_small =
      let h = sum_most (count_of t) (λ i. need_at t i * minutes_at t i) (most_modules * most_minutes) job-work in
      omega (arith, fit.few)
