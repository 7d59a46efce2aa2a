-- The sum of needs: how many modules the placed jobs occupy, and that it gives the same starts as looking at the modules.
use mathlib.Core.Path.{◌≡◌, refl, sym, ap, ◌∙◌}
use mathlib.Core.Logic.{◌⊎◌, inl, inr, ⊎_elim}
use mathlib.Core.Bool.{Bool, true, false, ◌&&◌}
use Prim.Native.Nat.{ℕ, ◌+◌, ◌≤◌, ◌<◌}
use native.Mathlib.Omega.{arith}
use native.Mathlib.Nat.{le_antisymm}
use lib.Dec.{leb, eqb}
use borrow.Author.Tests.{ltb-true, eqb-true, eqb-false, lt-ltb, leb-true, le-leb}
use Rattle.counting.specs.Counting.{only, sum, any, count}
use Rattle.counting.proofs.Tests.{true-or-false, and_left, and_right, and_both, only_mono, same_test}
use Rattle.counting.proofs.Sums.{sum-le, sum_same, sum_swap}
use Rattle.counting.proofs.Ranges.{any_none}
use Rattle.counting.proofs.Counts.{count_one, count-not, count_none, any-le-count, only-count}
use Rattle.schedule.specs.Plan.{Sheet, finish}
use Rattle.schedule.specs.ListPlan.{PartPlan, occupies, free, occupied, MayStart, not_before, first_minute, all_free_from, start_of}
use Rattle.schedule.specs.PartPlans.{Sound}
use Rattle.schedule.proofs.Starts.{first-minute_same}

-- it never rises
pub occupied_falls : (S : Sheet) (P : PartPlan) (t u : ℕ) → t ≤ u → occupied S P u ≤ occupied S P t
unfolding occupied
occupied_falls S P t u l = sum-le S.jobs _ _ (λ i k. only_mono (occupies S P u i) (occupies S P t i) (S.need i) (λ e.
    let a = and_left (P.placed i) _ e in
    let b = ltb-true u (finish S P.plan i + S.rest) (and_right (P.placed i) _ e) in
    and_both (P.placed i) _ a (lt-ltb t (finish S P.plan i + S.rest) (omega arith))))

module _ (S : Sheet) (P : PartPlan) (h : Sound S P) where
  module _ (t : ℕ) (l : P.last ≤ t) where
    -- job i has module m at minute t
    abbrev has : ℕ → ℕ → Bool
    has m i = occupies S P t i && P.plan.uses i m

    -- a module is occupied by one job at most
    one_holder : (m : ℕ) → only (any S.jobs (has m)) 1 ≡ count S.jobs (has m)
    one_holder m = le_antisymm (any-le-count S.jobs _) (go (true-or-false (any S.jobs (has m))))
      where
        same : (i k : ℕ) → i < S.jobs → k < S.jobs → has m i ≡ true → has m k ≡ true → (b : Bool) → eqb i k ≡ b → i ≡ k
        same i k p q a b true e = eqb-true i k e
        same i k p q a b false e =
            let ha = and_left (occupies S P t i) _ a in
            let hb = and_left (occupies S P t k) _ b in
            let pa = and_left (P.placed i) _ ha in
            let pb = and_left (P.placed k) _ hb in
            let ta = ltb-true t (finish S P.plan i + S.rest) (and_right (P.placed i) _ ha) in
            let tb = ltb-true t (finish S P.plan k + S.rest) (and_right (P.placed k) _ hb) in
            let sa = h.early i p pa in
            let sb = h.early k q pb in
            ⊎_elim (λ x. absurd (omega arith)) (λ x. absurd (omega arith))
            (h.apart i k m p q pa pb (eqb-false i k e) (and_right (occupies S P t i) _ a) (and_right (occupies S P t k) _ b))

        go : (any S.jobs (has m) ≡ true) ⊎ (any S.jobs (has m) ≡ false) → count S.jobs (has m) ≤ only (any S.jobs (has m)) 1
        go (inl e) = rw e (count_one S.jobs _ (λ i k p q a b. same i k p q a b (eqb i k) refl))
        go (inr e) = rw e (omega (arith, count_none S.jobs (has m) (any_none S.jobs (has m) e)))

    job_modules : (i : ℕ) → i < S.jobs → (occupies S P t i ≡ true) ⊎ (occupies S P t i ≡ false)
        → only (occupies S P t i) (S.need i) ≡ count S.modules (λ m. has m i)
    job_modules i k (inl e) =
        ap (λ x. only (occupies S P t i) x) (sym (h.enough i k (and_left (P.placed i) _ e)))
        ∙ only-count (occupies S P t i) S.modules (P.plan.uses i)
    job_modules i k (inr e) =
        ap (λ b. only b (S.need i)) e ∙ ap (λ b. only b (count S.modules (P.plan.uses i))) (sym e)
        ∙ only-count (occupies S P t i) S.modules (P.plan.uses i)

    -- the free modules and the occupied ones are all modules
    pub free-count : count S.modules (free S P t) + occupied S P t ≡ S.modules
    unfolding occupied
    free-count =
        let n = S.jobs in
        let N = S.modules in
        let each = sum_same N (λ m. only (any n (has m)) 1) (λ m. count n (has m)) (λ m k. one_holder m) in
        let swap = sum_swap n N (λ i m. only (has m i) 1) in
        let same : occupied S P t ≡ sum n (λ i. count N (λ m. has m i)) =
        sum_same n _ _ (λ i k. job_modules i k (true-or-false (occupies S P t i))) in
        omega (arith, count-not N (λ m. any n (has m)))

  -- there is room for the job: by the modules, and by the sum of needs
  pub room-sum : (j t : ℕ) → MayStart S P j t → occupied S P t + S.need j ≤ S.modules
  room-sum j t f = omega (arith, free-count t f.later, f.room)

  pub sum_room : (j t : ℕ) → P.last ≤ t → occupied S P t + S.need j ≤ S.modules → S.need j ≤ count S.modules (free S P t)
  sum_room j t l f = omega (arith, free-count t l)

  -- The sum of needs gives the same starts: the list plan's start is the first minute at which the sum leaves room.
  pub start_by_needs : (j : ℕ)
      → start_of S P j ≡ first_minute (λ t. leb (occupied S P t + S.need j) S.modules) (all_free_from S P) (not_before S P j)
  unfolding start_of
  start_by_needs j = first-minute_same _ _ (all_free_from S P) (not_before S P j) (λ t l.
      let e : P.last ≤ t = omega arith in
      same_test (leb (S.need j) (count S.modules (free S P t))) (leb (occupied S P t + S.need j) S.modules)
      (λ x. let a : S.need j ≤ count S.modules (free S P t) = leb-true _ _ x in
      le-leb (occupied S P t + S.need j) S.modules (omega (arith, free-count t e)))
      (λ x. le-leb (S.need j) (count S.modules (free S P t)) (sum_room j t e (leb-true _ _ x))))
