-- When a job can follow and when it can start: what `ready` and `start_of` say.
use mathlib.Core.Path.{◌≡◌, refl, ap, ◌∙◌}
use mathlib.Core.Logic.{◌⊎◌, inl, inr, ◌≢◌}
use mathlib.Core.Bool.{Bool, true, false, not, ◌&&◌, ◌||◌}
use Prim.Native.Nat.{ℕ, zero, suc, ◌+◌, ◌*◌, ◌≤◌, ◌<◌}
use native.Mathlib.Omega.{arith}
use native.Mathlib.Nat.{le_refl}
use lib.Dec.{ltb, leb}
use borrow.Author.Tests.{ltb-true, leb-true, lt-ltb, le-leb, not-true}
use Rattle.counting.specs.Counting.{only, largest, every, count}
use Rattle.counting.proofs.Tests.{true-or-false, clash, and_left, and_right, and_both, not_of_false, implied, implication, only_within}
use Rattle.counting.proofs.Ranges.{le-largest, largest-le, every-at, every_intro, none_any}
use Rattle.counting.proofs.Sums.{sum_const, sum_same}
use Rattle.schedule.specs.Plan.{Sheet, finish}
use Rattle.schedule.specs.ListPlan.{PartPlan, ready, occupies, free, not_before, first_minute, all_free_from, start_of, MayStart}

-- ---- the least minute

pub first-minute_ge : (p : ℕ → Bool) (k t : ℕ) → t ≤ first_minute p k t
unfolding first_minute
first-minute_ge p zero t = le_refl t
first-minute_ge p (suc k) t = go (p t) refl (first-minute_ge p k (suc t))
  where
    go : (b : Bool) → p t ≡ b → suc t ≤ first_minute p k (suc t) → t ≤ first_minute p (suc k) t
    go true e h = rw (e, first_minute) (le_refl t)
    go false e h = rw (e, first_minute) (omega arith)

pub first-minute-le : (p : ℕ → Bool) (k t u : ℕ) → t ≤ u → p u ≡ true → first_minute p k t ≤ u
unfolding first_minute
first-minute-le p zero t u l h = l
first-minute-le p (suc k) t u l h = go (p t) refl (λ d. first-minute-le p k (suc t) u d h)
  where
    go : (b : Bool) → p t ≡ b → (suc t ≤ u → first_minute p k (suc t) ≤ u) → first_minute p (suc k) t ≤ u
    go true e f = rw (e, first_minute) l
    go false e f = let d : t ≢ u = λ q. clash (p t) (rw q h) e in rw (e, first_minute) (f (omega arith))

pub first-minute_passes : (p : ℕ → Bool) (k t u : ℕ) → t ≤ u → u ≤ t + k → p u ≡ true → p (first_minute p k t) ≡ true
unfolding first_minute
first-minute_passes p zero t u l m h = let q : t ≡ u = omega arith in rw q h
first-minute_passes p (suc k) t u l m h = go (p t) refl (λ d. first-minute_passes p k (suc t) u d (omega arith) h)
  where
    go : (b : Bool) → p t ≡ b → (suc t ≤ u → p (first_minute p k (suc t)) ≡ true) → p (first_minute p (suc k) t) ≡ true
    go true e f = rw (e, first_minute) e
    go false e f = let d : t ≢ u = λ q. clash (p t) (rw q h) e in rw (e, first_minute) (f (omega arith))

-- minutes before t do not matter
pub first-minute_same : (p q : ℕ → Bool) (k t : ℕ) → ((u : ℕ) → t ≤ u → p u ≡ q u) → first_minute p k t ≡ first_minute q k t
unfolding first_minute
first-minute_same p q zero t h = refl
first-minute_same p q (suc k) t h = go (q t) refl (first-minute_same p q k (suc t) (λ u l. h u (omega arith)))
  where
    go : (b : Bool) → q t ≡ b → first_minute p k (suc t) ≡ first_minute q k (suc t) → first_minute p (suc k) t ≡ first_minute q (suc k) t
    go true e f = rw (h t (le_refl t) ∙ e, e, first_minute)
    go false e f = rw (h t (le_refl t) ∙ e, e, first_minute) f

-- ---- a job that can follow

pub record Ready (S : Sheet) (d : ℕ → Bool) (j : ℕ) : Type 0 where
  pub job : j < S.jobs
  pub new : d j ≡ false
  pub after : (i : ℕ) → i < S.jobs → S.before i j ≡ true → d i ≡ true

pub ready_says : (S : Sheet) (d : ℕ → Bool) (j : ℕ) → ready S d j ≡ true → Ready S d j
unfolding ready
ready_says S d j e =
    let q : ℕ → Bool = λ i. not (S.before i j) || d i in
    let a = and_left (ltb j S.jobs && not (d j)) (every S.jobs q) e in
    let v = and_right (ltb j S.jobs && not (d j)) (every S.jobs q) e in
    record {
      job = ltb-true j S.jobs (and_left (ltb j S.jobs) (not (d j)) a);
      new = not-true (d j) (and_right (ltb j S.jobs) (not (d j)) a);
      after = λ i l b. implied (S.before i j) (d i) (every-at S.jobs q v i l) b;
    }

pub ready_when : (S : Sheet) (d : ℕ → Bool) (j : ℕ) → Ready S d j → ready S d j ≡ true
unfolding ready
ready_when S d j r =
    and_both _ _ (and_both _ _ (lt-ltb j S.jobs r.job) (not_of_false (d j) r.new))
    (every_intro S.jobs _ (λ i l. implication (S.before i j) (d i) (r.after i l)))

-- ---- the minutes at which a job may start, and the least of them

-- every module is free once all placed jobs have given up theirs
pub all-free : (S : Sheet) (P : PartPlan) (t : ℕ) → all_free_from S P ≤ t → count S.modules (free S P t) ≡ S.modules
all-free S P t h =
    sum_same S.modules _ (λ m. 1)
    (λ m k. ap (λ b. only (not b) 1) (none_any S.jobs _ (λ i l. one m i l (true-or-false (occupies S P t i)))))
    ∙ sum_const S.modules 1 ∙ (let z : S.modules * 1 ≡ S.modules = omega arith in z)
  where
    one : (m i : ℕ) → i < S.jobs → (occupies S P t i ≡ true) ⊎ (occupies S P t i ≡ false)
        → (occupies S P t i && P.plan.uses i m) ≡ false
    one m i l (inr e) = rw e
    one m i l (inl e) =
        let a = and_left (P.placed i) _ e in
        let b = ltb-true t (finish S P.plan i + S.rest) (and_right (P.placed i) _ e) in
        let c : finish S P.plan i + S.rest ≤ all_free_from S P =
        rw a at (le-largest S.jobs (λ i. only (P.placed i) (finish S P.plan i + S.rest)) i l) in
        absurd (omega arith)

module _ (S : Sheet) (P : PartPlan) (j : ℕ) where
  waits : ℕ → ℕ
  waits i = only (S.before i j) (finish S P.plan i)

  pub not_before-le : (t : ℕ) → P.last ≤ t → S.arrival j ≤ t
      → ((i : ℕ) → i < S.jobs → S.before i j ≡ true → finish S P.plan i ≤ t) → not_before S P j ≤ t
  unfolding waits
  not_before-le t a b f = omega (arith, largest-le S.jobs waits t (λ i l. only_within (S.before i j) _ t (f i l)))

  -- no job starts after the first minute at which it may
  pub start-le : (t : ℕ) → MayStart S P j t → start_of S P j ≤ t
  unfolding start_of
  start-le t f =
      first-minute-le _ (all_free_from S P) (not_before S P j) t (not_before-le t f.later f.arrived f.after)
      (le-leb (S.need j) (count S.modules (free S P t)) f.room)

  -- and none starts before it, where the job is not wider than the cabinet
  pub start_may : S.need j ≤ S.modules → MayStart S P j (start_of S P j)
  unfolding start_of waits
  start_may w =
      let k = all_free_from S P in
      let s = not_before S P j in
      let fits : ℕ → Bool = λ t. leb (S.need j) (count S.modules (free S P t)) in
      let g : s ≤ start_of S P j = first-minute_ge _ k s in
      let z : count S.modules (free S P (s + k)) ≡ S.modules = all-free S P (s + k) (omega arith) in
      let e : fits (s + k) ≡ true = le-leb (S.need j) (count S.modules (free S P (s + k))) (omega arith) in
      record {
        later = omega arith;
        arrived = omega arith;
        after = λ i l b. let c : finish S P.plan i ≤ largest S.jobs waits = rw b at (le-largest S.jobs waits i l) in omega arith;
        room = leb-true _ _ (first-minute_passes fits k s (s + k) (omega arith) (le_refl _) e);
      }
