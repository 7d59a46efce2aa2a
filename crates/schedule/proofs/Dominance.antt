-- Dominance between part-plans with equal sets: one that is ahead of another stays ahead until the end, in whatever order the rest comes.
use mathlib.Core.Path.{◌≡◌, refl, sym, ap, ◌∙◌}
use mathlib.Core.Bool.{Bool, true, false, ◌||◌}
use mathlib.Core.List.{List, [], ◌∷◌}
use Prim.Native.Nat.{ℕ, ◌+◌, ◌≤◌, ◌<◌, max}
use native.Mathlib.Omega.{arith}
use native.Mathlib.Nat.{le_trans}
use lib.Dec.{eqb}
use borrow.Author.Tests.{ltb-true, lt-ltb}
use Rattle.counting.proofs.Tests.{and_left, and_right, and_both, only_mono}
use Rattle.counting.proofs.Sums.{sum-le}
use Rattle.counting.proofs.Ranges.{le-largest, largest-le}
use Rattle.counting.proofs.Counts.{count_insert}
use Rattle.schedule.specs.Plan.{Sheet, finish, plan_end, Narrow}
use Rattle.schedule.specs.ListPlan.{PartPlan, Follows, occupies, start_of, place, place_all, MayStart, occupied}
use Rattle.schedule.specs.PartPlans.{Sound, Completes, Ahead, next_start}
use Rattle.schedule.proofs.Starts.{Ready, ready_says, start-le, start_may}
use Rattle.schedule.proofs.Sound.{part_end-le, place_sound, completes_all}
use Rattle.schedule.proofs.Occupied.{room-sum, sum_room}

-- ---- one step

module _ (S : Sheet) (A B : PartPlan) (l : ℕ) (h : Ahead S A B l) where
  occupied_ahead : (t : ℕ) → l ≤ t → occupied S A t ≤ occupied S B t
  unfolding occupied
  occupied_ahead t m = sum-le S.jobs _ _ (λ i k. only_mono (occupies S A t i) (occupies S B t i) (S.need i) (λ e.
      let a = and_left (A.placed i) _ e in
      let b = ltb-true t (finish S A.plan i + S.rest) (and_right (A.placed i) _ e) in
      let c = h.ends i k a in
      and_both (B.placed i) _ (sym (h.same i k) ∙ a) (lt-ltb t (finish S B.plan i + S.rest) (omega arith))))

  -- when B may start a job, A may start it
  may_ahead : Sound S A → Sound S B → (j t : ℕ) → Ready S B.placed j → l ≤ t → MayStart S B j t → MayStart S A j t
  may_ahead a b j t r m f =
      let from : A.last ≤ t = omega (arith, h.last) in
      record {
        later = from;
        arrived = f.arrived;
        after = λ i k e. let c = f.after i k e in let d = h.ends i k (h.same i k ∙ r.after i k e) in omega arith;
        room = sum_room S A a j t from (omega (arith, occupied_ahead t m, room-sum S B b j t f));
      }

  place_ahead : (j s t : ℕ) → s ≤ t → l ≤ t → Ahead S (place S A j s) (place S B j t) t
  place_ahead j s t k m = record {
    same = λ i n. ap (λ b. eqb i j || b) (h.same i n);
    last = k;
    ends = λ i n. one i n (eqb i j) refl;
  }
    where
      one : (i : ℕ) → i < S.jobs → (b : Bool) → eqb i j ≡ b → (place S A j s).placed i ≡ true
          → finish S (place S A j s).plan i + S.rest ≤ max (finish S (place S B j t).plan i + S.rest) t
      one i n true e p = rw e (omega arith)
      one i n false e p = let q : A.placed i ≡ true = rw e at p in rw e (omega (arith, h.ends i n q))

  -- all jobs are placed: A ends no later
  ahead_end : ((i : ℕ) → i < S.jobs → A.placed i ≡ true) → l ≤ plan_end S B.plan → plan_end S A.plan ≤ plan_end S B.plan
  ahead_end full m = largest-le S.jobs _ _ (λ i k.
      omega (arith, h.ends i k (full i k), le-largest S.jobs (finish S B.plan) i k))

-- ---- whole orders

pub last-le_next : (S : Sheet) → Narrow S → (P : PartPlan) → Sound S P → (o : List ℕ) → Follows S P.placed o → P.last ≤ next_start S P o
last-le_next S w P h [] f = h.ended
last-le_next S w P h (j ∷ o) f = (start_may S P j (w j (ready_says S P.placed j f.0).job)).later

-- A part-plan that is ahead of another from a minute on, before which the other starts no further job, ends no later,
-- whatever order completes them.
pub ahead_ends : (S : Sheet) → Narrow S → (A B : PartPlan) → Sound S A → Sound S B → (l : ℕ) → Ahead S A B l
    → (o : List ℕ) → Completes S B o → l ≤ next_start S B o → plan_end S (place_all S A o).plan ≤ plan_end S (place_all S B o).plan
unfolding place_all
ahead_ends S w A B a b l h [] c m =
    ahead_end S A B l h (λ i k. h.same i k ∙ completes_all S B [] c i k) (le_trans m (part_end-le S B))
ahead_ends S w A B a b l h (j ∷ o) (f, c) m =
    let r = ready_says S B.placed j f.0 in
    let s = start_of S A j in
    let t = start_of S B j in
    let may = start_may S B j (w j r.job) in
    let q : Ready S A.placed j =
    record { job = r.job; new = h.same j r.job ∙ r.new; after = λ i k e. h.same i k ∙ r.after i k e } in
    let k = start-le S A j t (may_ahead S A B l h a b j t r m may) in
    let sa = place_sound S A a j s q (start_may S A j (w j r.job)) in
    let sb = place_sound S B b j t r may in
    ahead_ends S w (place S A j s) (place S B j t) sa sb t (place_ahead S A B l h j s t k m) o
    (f.1, omega (arith, count_insert S.jobs B.placed j r.job r.new))
    (last-le_next S w (place S B j t) sb o f.1)
