-- The area bound: module-minutes that are gone or still kept, over the modules, are a lower bound on every completion's end and the rest
-- behind it.
use mathlib.Core.Path.{◌≡◌, refl, sym, ap, ◌∙◌}
use mathlib.Core.Logic.{◌⊎◌, inl, inr}
use mathlib.Core.Bool.{Bool, true, false, not, ◌&&◌}
use mathlib.Core.List.{List, [], ◌∷◌}
use Prim.Native.Nat.{ℕ, ◌+◌, ◌-◌, ◌*◌, ◌≤◌, ◌<◌}
use native.Mathlib.Omega.{arith}
use native.Mathlib.Nat.{le_refl, le_trans, le_of_eq, mul-le-mul_left, mul-le-mul_right, mul-add}
use lib.Dec.{ltb, eqb}
use borrow.Author.Tests.{ltb-false, eqb-true}
use Rattle.counting.specs.Counting.{only, sum}
use Rattle.counting.proofs.Tests.{true-or-false, only_within}
use Rattle.counting.proofs.Sums.{sum-le, sum_same, sum-add, sum-mul, sum-zero, sum_const, sum_swap, le-sum}
use Rattle.counting.proofs.Ranges.{le-largest, largest-le}
use Rattle.counting.proofs.Counts.{count_insert, sum_alike}
use Rattle.schedule.specs.Plan.{Sheet, finish, plan_end, Narrow}
use Rattle.schedule.specs.ListPlan.{PartPlan, occupies, start_of, place, place_all, occupied}
use Rattle.schedule.specs.PartPlans.{Sound, Completes, next_start}
use Rattle.schedule.specs.Bounds.{kept, todo, work, available_from}
use Rattle.schedule.proofs.Starts.{Ready, ready_says, start_may}
use Rattle.schedule.proofs.Sound.{part_end-le, place_sound, completes_all}
use Rattle.schedule.proofs.Occupied.{free-count}
use Rattle.schedule.proofs.Dominance.{last-le_next}

module _ (S : Sheet) (P : PartPlan) (h : Sound S P) (l : ℕ) (m : P.last ≤ l) where
  -- from l to t the occupied modules do at most so much
  passed : ℕ → ℕ → ℕ
  passed d i = only (occupies S P l i) (S.need i) * d

  passed-le : (d : ℕ) → sum S.jobs (passed d) ≤ S.modules * d
  unfolding passed occupied
  passed-le d =
      let mul = sum-mul S.jobs (λ i. only (occupies S P l i) (S.need i)) d in
      let room : occupied S P l ≤ S.modules = omega (arith, free-count S P h l m) in
      let most = mul-le-mul_right d room in
      omega arith

  -- ---- one job more

  module _ (j t d : ℕ) (e : t ≡ l + d) (r : Ready S P.placed j) where
    todo-step : (i : ℕ) → i < S.jobs → todo S P l i ≤ todo S (place S P j t) t i + passed d i
    unfolding passed
    todo-step i k = go (eqb i j) refl (true-or-false (P.placed i)) (true-or-false (ltb l (finish S P.plan i + S.rest)))
      where
        go : (b : Bool) → eqb i j ≡ b → (P.placed i ≡ true) ⊎ (P.placed i ≡ false)
            → (ltb l (finish S P.plan i + S.rest) ≡ true) ⊎ (ltb l (finish S P.plan i + S.rest) ≡ false)
            → todo S P l i ≤ todo S (place S P j t) t i + only (occupies S P l i) (S.need i) * d
        go true q p o =
            let n : P.placed i ≡ false = rw (eqb-true i j q) r.new in
            let z : t + S.minutes i + S.rest - t ≡ kept S i = omega arith in
            rw (q, n, z) (omega arith)
        go false q (inr p) o = rw (q, p) (omega arith)
        go false q (inl p) (inl o) =
            let f = finish S P.plan i + S.rest in
            rw (q, p, o) (le_trans (mul-le-mul_left (S.need i) (omega arith)) (le_of_eq (mul-add (S.need i) (f - t) d)))
        go false q (inl p) (inr o) =
            let z : finish S P.plan i + S.rest - l ≡ 0 = omega (arith, ltb-false l (finish S P.plan i + S.rest) o) in
            rw (q, p, o, z) (omega arith)

    work_step : work S P l ≤ work S (place S P j t) t
    unfolding work
    work_step =
        let each = sum-le S.jobs (todo S P l) (λ i. todo S (place S P j t) t i + passed d i) todo-step in
        let split = sum-add S.jobs (todo S (place S P j t) t) (passed d) in
        let total : S.modules * t ≡ S.modules * l + S.modules * d = rw e (mul-add S.modules l d) in
        omega (arith, passed-le d)

  -- ---- every job is placed

  work_end : ((i : ℕ) → i < S.jobs → P.placed i ≡ true) → l ≤ plan_end S P.plan
      → work S P l ≤ S.modules * (plan_end S P.plan + S.rest)
  unfolding work passed
  work_end full k =
      let u = plan_end S P.plan + S.rest in
      let d = u - l in
      let each = sum-le S.jobs (todo S P l) (passed d) (λ i n. one i n (true-or-false (ltb l (finish S P.plan i + S.rest)))) in
      let e : u ≡ l + d = omega arith in
      let total : S.modules * u ≡ S.modules * l + S.modules * d = ap (λ x. S.modules * x) e ∙ mul-add S.modules l d in
      omega (arith, passed-le d)
    where
      one : (i : ℕ) → i < S.jobs
          → (ltb l (finish S P.plan i + S.rest) ≡ true) ⊎ (ltb l (finish S P.plan i + S.rest) ≡ false)
          → todo S P l i ≤ only (occupies S P l i) (S.need i) * (plan_end S P.plan + S.rest - l)
      one i n (inl q) = rw (full i n, q) (mul-le-mul_left (S.need i) (omega (arith, le-largest S.jobs (finish S P.plan) i n)))
      one i n (inr q) =
          let z : finish S P.plan i + S.rest - l ≡ 0 = omega (arith, ltb-false l (finish S P.plan i + S.rest) q) in
          rw (full i n, q, z) (omega arith)

-- Whatever order completes P: its end and the rest, times the modules, is at least the work of P, reckoned from any minute
-- between the last start and the next.
pub area_bound : (S : Sheet) → Narrow S → (P : PartPlan) → Sound S P → (l : ℕ) → P.last ≤ l
    → (o : List ℕ) → Completes S P o → l ≤ next_start S P o → work S P l ≤ S.modules * (plan_end S (place_all S P o).plan + S.rest)
unfolding place_all
area_bound S w P h l m [] c k = work_end S P h l m (completes_all S P [] c) (le_trans k (part_end-le S P))
area_bound S w P h l m (j ∷ o) (f, c) k =
    let r = ready_says S P.placed j f.0 in
    let t = start_of S P j in
    let s = place_sound S P h j t r (start_may S P j (w j r.job)) in
    le_trans (work_step S P h l m j t (t - l) (omega arith) r)
    (area_bound S w (place S P j t) s t (le_refl t) o
    (f.1, omega (arith, count_insert S.jobs P.placed j r.job r.new)) (last-le_next S w (place S P j t) s o f.1))

-- ---- the paper's formula (6) (P-17)

-- The left side of (6) is no more than the work at the last start, so that the area bound cuts wherever (6) does.
-- (7), with (8), is (6) with the placed jobs' module-minutes taken from both sides.
-- A rest counts as minutes of the job before it.
pub formula_six : (S : Sheet) (P : PartPlan) → Sound S P
    → sum S.modules (available_from S P) + sum S.jobs (λ i. only (not (P.placed i)) (S.need i * kept S i)) ≤ work S P P.last
unfolding work
formula_six S P h =
    let n = S.jobs in
    let N = S.modules in
    let each = sum-le N (available_from S P) (λ m. P.last + sum n (λ i. left i m))
    (λ m l. largest-le n _ _ (λ i k. only_within (P.placed i && P.plan.uses i m) _ _ (one i m k))) in
    let split = sum-add N (λ m. P.last) (λ m. sum n (λ i. left i m)) in
    let flat = sum_const N P.last in
    let swap = sum_swap n N left in
    let all : sum n (λ i. sum N (left i)) + sum n (λ i. only (not (P.placed i)) (S.need i * kept S i)) ≡ sum n (todo S P P.last) =
    sym (sum-add n (λ i. sum N (left i)) (λ i. only (not (P.placed i)) (S.need i * kept S i)))
    ∙ sum_same n _ _ (λ i l. two i l (true-or-false (P.placed i))) in
    omega arith
  where
    -- what is left of job i on module m at the last start
    left : ℕ → ℕ → ℕ
    left i m = only (P.placed i && P.plan.uses i m) (finish S P.plan i + S.rest - P.last)

    one : (i m : ℕ) → i < S.jobs → (P.placed i && P.plan.uses i m) ≡ true
        → finish S P.plan i + S.rest ≤ P.last + sum S.jobs (λ i. left i m)
    one i m l e =
        let a : finish S P.plan i + S.rest - P.last ≤ sum S.jobs (λ i. left i m) = rw e at (le-sum S.jobs (λ i. left i m) i l) in
        omega arith

    two : (i : ℕ) → i < S.jobs → (P.placed i ≡ true) ⊎ (P.placed i ≡ false)
        → sum S.modules (left i) + only (not (P.placed i)) (S.need i * kept S i) ≡ todo S P P.last i
    two i l (inl e) =
        let d = finish S P.plan i + S.rest - P.last in
        let c : sum S.modules (left i) ≡ S.need i * d =
        sum_same S.modules _ (λ m. only (P.plan.uses i m) d) (λ m k. ap (λ b. only (b && P.plan.uses i m) d) e)
        ∙ sum_alike S.modules (P.plan.uses i) d ∙ ap (λ x. x * d) (h.enough i l e) in
        rw e (omega arith)
    two i l (inr e) =
        let d = finish S P.plan i + S.rest - P.last in
        let c : sum S.modules (left i) ≡ 0 =
        sum_same S.modules _ (λ m. 0) (λ m k. ap (λ b. only (b && P.plan.uses i m) d) e) ∙ sum-zero S.modules in
        rw e (omega arith)
