-- The bound by modules: where no set of jobs that are left and keep a module for x minutes together weighs more than Z x, a module serves,
-- from the minute at which it comes free, no more weight than Z of the minutes up to the end and the rest behind it.
use mathlib.Core.Path.{◌≡◌, refl, ap, ◌∙◌}
use mathlib.Core.Logic.{◌⊎◌, inl, inr, ⊎_elim, ◌≢◌}
use mathlib.Core.Bool.{Bool, true, false, not, ◌&&◌}
use Prim.Native.Nat.{ℕ, ◌+◌, ◌-◌, ◌*◌, ◌≤◌, ◌<◌, max, zero-le}
use native.Mathlib.Omega.{arith}
use lib.Dec.{leb}
use borrow.Author.Tests.{leb-true, le-leb, not-true, not-false}
use Rattle.counting.specs.Counting.{only, sum, count}
use Rattle.counting.proofs.Tests.{true-or-false, clash, and_left, and_right, and_both, only_within}
use Rattle.counting.proofs.Sums.{sum-le, sum_same, sum-add, sum_swap, sum-zero, le-sum}
use Rattle.counting.proofs.Ranges.{le-largest, largest-le, any_some}
use Rattle.counting.proofs.Counts.{sum_alike}
use Rattle.schedule.specs.Plan.{Sheet, Plan, Valid, finish, plan_end, Lasting}
use Rattle.schedule.specs.ListPlan.{PartPlan, occupies, free, occupied}
use Rattle.schedule.specs.PartPlans.{Sound}
use Rattle.schedule.specs.Bounds.{kept, available_from, Lasts}
use Rattle.schedule.proofs.Occupied.{free-count}
use Rattle.schedule.proofs.Weights.{GoesOn}
use Rattle.schedule.proofs.Lanes.{OnLanes, minutes_from_lem, lanes_bound}

-- Q goes on from P, and keeps the placed jobs on their modules too
pub record GoesOnWith (S : Sheet) (P : PartPlan) (l : ℕ) (Q : Plan) : Type 0 where
  pub on : GoesOn S P l Q
  pub valid : Valid S Q
  pub uses : (k m : ℕ) → k < S.jobs → P.placed k ≡ true → Q.uses k m ≡ P.plan.uses k m

-- the minute from which module m is free for the jobs that are left
abbrev pub free_from : Sheet → PartPlan → ℕ → ℕ → ℕ
free_from S P l m = max l (available_from S P m)

module _ (S : Sheet) (w : Lasting S) (P : PartPlan) (l : ℕ) (Q : Plan) (h : GoesOnWith S P l Q) (C : ℕ) (e : plan_end S Q + S.rest ≤ C) where
  -- job k is one of those that are left, and module m serves it
  abbrev served : ℕ → ℕ → Bool
  served m k = not (P.placed k) && Q.uses k m

  is_left : (m k : ℕ) → served m k ≡ true → P.placed k ≡ false
  is_left m k b = not-true (P.placed k) (and_left (not (P.placed k)) _ b)

  -- a job that a module serves starts when the module is free
  starts-free : (m k : ℕ) → k < S.jobs → served m k ≡ true → free_from S P l m ≤ Q.start k
  starts-free m k x b =
      let most = largest-le S.jobs (λ i. only (P.placed i && P.plan.uses i m) (finish S P.plan i + S.rest)) (Q.start k)
      (λ i z. only_within (P.placed i && P.plan.uses i m) (finish S P.plan i + S.rest) (Q.start k) (one i z)) in
      omega (arith, most, h.on.later k x (is_left m k b))
    where
      one : (i : ℕ) → i < S.jobs → (P.placed i && P.plan.uses i m) ≡ true → finish S P.plan i + S.rest ≤ Q.start k
      one i z c =
          let p = and_left (P.placed i) _ c in
          let s = h.on.kept i z p in
          let u : Q.uses i m ≡ true = h.uses i m z p ∙ and_right (P.placed i) _ c in
          let other : i ≢ k = λ y. clash (P.placed i) p (ap P.placed y ∙ is_left m k b) in
          ⊎_elim (λ d. omega (arith, d, s)) (λ d. absurd (omega (arith, d, s, h.on.early i z p, h.on.later k x (is_left m k b), w k x)))
          (h.valid.apart i k m z x other u (and_right (not (P.placed k)) _ b))

  -- ---- the modules as lanes

  is_open : ℕ → ℕ → Bool
  is_open m t = leb (free_from S P l m) t

  on_modules : OnLanes S.jobs (λ k. not (P.placed k)) Q.start (kept S) S.need S.modules is_open Q.uses
  unfolding is_open
  on_modules = record {
    enough = λ k x p. h.valid.enough k x;
    opened = λ k m x p u. le-leb (free_from S P l m) (Q.start k) (starts-free m k x (and_both (not (P.placed k)) _ p u));
    apart = λ i k m x z p q other u v. ⊎_elim (λ d. inl (omega (arith, d))) (λ d. inr (omega (arith, d)))
        (h.valid.apart i k m x z other u v);
  }

  -- The jobs that are left weigh no more than what the modules can serve.
  pub modules_bound : (y Z : ℕ → ℕ) → Lasts S P y Z
      → sum S.jobs (λ k. only (not (P.placed k)) (S.need k * y k)) ≤ sum S.modules (λ m. Z (C - free_from S P l m))
  unfolding is_open
  modules_bound y Z most =
      let bound = lanes_bound S.jobs (λ k. not (P.placed k)) Q.start (kept S) S.need S.modules is_open Q.uses on_modules
      (λ m t u x b. le-leb (free_from S P l m) u (omega (arith, leb-true (free_from S P l m) t b)))
      C (λ k x p. omega (arith, e, le-largest S.jobs (finish S Q) k x)) (λ k. 0) (λ k x p. zero-le) y Z
      (λ X x a left short late. most X x (λ k b. not-true (P.placed k) (left k b)) short) in
      let each = sum_same S.modules (λ m. Z (count C (is_open m))) (λ m. Z (C - free_from S P l m))
      (λ m x. ap Z (minutes_from_lem C (free_from S P l m))) in
      omega (arith, bound, each)

-- ---- the same, from the placed jobs that still run

module _ (S : Sheet) (P : PartPlan) (s : Sound S P) (l : ℕ) (from : P.last ≤ l) (C : ℕ) (Z : ℕ → ℕ)
    (mono : (a b : ℕ) → a ≤ b → Z a ≤ Z b) where
  -- what a placed job leaves of its modules
  rest_of : ℕ → ℕ
  rest_of k = Z (C - (finish S P.plan k + S.rest))

  -- a module that is not free at minute l is held by a job that runs
  one_module : (m : ℕ) → (free S P l m ≡ true) ⊎ (free S P l m ≡ false)
      → Z (C - free_from S P l m)
      ≤ sum S.jobs (λ k. only (occupies S P l k && P.plan.uses k m) (rest_of k)) + only (free S P l m) (Z (C - l))
  unfolding rest_of
  one_module m (inl f) =
      let z = mono (C - free_from S P l m) (C - l) (omega arith) in
      rw f (omega (arith, z))
  one_module m (inr f) = go (any_some S.jobs (λ i. occupies S P l i && P.plan.uses i m) (not-false _ f))
    where
      go : (k : ℕ) × (k < S.jobs) × ((occupies S P l k && P.plan.uses k m) ≡ true)
          → Z (C - free_from S P l m)
          ≤ sum S.jobs (λ k. only (occupies S P l k && P.plan.uses k m) (rest_of k)) + only (free S P l m) (Z (C - l))
      go (k, x, b) =
          let p = and_left (P.placed k) _ (and_left (occupies S P l k) _ b) in
          let u = and_both (P.placed k) _ p (and_right (occupies S P l k) _ b) in
          let a : finish S P.plan k + S.rest ≤ available_from S P m =
          rw u at (le-largest S.jobs (λ i. only (P.placed i && P.plan.uses i m) (finish S P.plan i + S.rest)) k x) in
          let z = mono (C - free_from S P l m) (C - (finish S P.plan k + S.rest)) (omega arith) in
          let y : rest_of k ≤ sum S.jobs (λ k. only (occupies S P l k && P.plan.uses k m) (rest_of k)) =
          rw b at (le-sum S.jobs (λ k. only (occupies S P l k && P.plan.uses k m) (rest_of k)) k x) in
          omega (arith, z, y)

  held : (k : ℕ) → k < S.jobs
      → sum S.modules (λ m. only (occupies S P l k && P.plan.uses k m) (rest_of k)) ≡ only (occupies S P l k) (S.need k * rest_of k)
  held k x = go (occupies S P l k) refl
    where
      go : (b : Bool) → occupies S P l k ≡ b
          → sum S.modules (λ m. only (occupies S P l k && P.plan.uses k m) (rest_of k)) ≡ only (occupies S P l k)
          (S.need k * rest_of k)
      go true q =
          rw q
          (sum_alike S.modules (P.plan.uses k) (rest_of k)
          ∙ ap (λ (c : ℕ). c * rest_of k) (s.enough k x (and_left (P.placed k) _ q)))
      go false q = rw q (sum-zero S.modules)

  pub by_profile : sum S.modules (λ m. Z (C - free_from S P l m))
      ≤ sum S.jobs (λ k. only (occupies S P l k) (S.need k * Z (C - (finish S P.plan k + S.rest))))
      + (S.modules - occupied S P l) * Z (C - l)
  unfolding rest_of
  by_profile =
      let busy : ℕ → ℕ → ℕ = λ k m. only (occupies S P l k && P.plan.uses k m) (rest_of k) in
      let each = sum-le S.modules (λ m. Z (C - free_from S P l m)) (λ m. sum S.jobs (λ k. busy k m) + only (free S P l m) (Z (C - l)))
      (λ m x. one_module m (true-or-false (free S P l m))) in
      let split = sum-add S.modules (λ m. sum S.jobs (λ k. busy k m)) (λ m. only (free S P l m) (Z (C - l))) in
      let swap = sum_swap S.jobs S.modules busy in
      let jobs = sum_same S.jobs _ (λ k. only (occupies S P l k) (S.need k * rest_of k)) held in
      let frees : sum S.modules (λ m. only (free S P l m) (Z (C - l))) ≡ (S.modules - occupied S P l) * Z (C - l) =
      sum_alike S.modules (free S P l) (Z (C - l)) ∙ ap (λ (c : ℕ). c * Z (C - l)) (omega (arith, free-count S P s l from)) in
      omega (arith, each, split, swap, jobs, frees)
