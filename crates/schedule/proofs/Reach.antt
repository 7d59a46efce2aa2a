-- The bound by lanes: a job fills as many lanes as it weighs, as many lanes are open as weight can stand on the free modules, and no lane
-- serves more value than its minutes reach. With the minutes for which jobs keep their modules as values it is the bound by weights.
use mathlib.Core.Path.{◌≡◌, refl, ap, ◌∙◌}
use mathlib.Core.Bool.{Bool, true, false, not, ◌&&◌}
use Prim.Native.Nat.{ℕ, zero, suc, ◌+◌, ◌-◌, ◌*◌, ◌≤◌, ◌<◌, zero-le}
use native.Mathlib.Omega.{arith}
use native.Mathlib.Nat.{le_refl}
use lib.Dec.{leb, ltb}
use borrow.Author.Tests.{ltb-true, leb-true, lt-ltb, le-leb, not-true}
use Rattle.counting.specs.Counting.{only, sum, count, Rises, Holds}
use Rattle.counting.proofs.Tests.{and_left, and_right, and_both, only-mul}
use Rattle.counting.proofs.Sums.{sum_same, sum_swap, sum-zero, sum_const, sum_first}
use Rattle.counting.proofs.Intervals.{inside, sum_inside}
use Rattle.counting.proofs.Ranges.{le-largest}
use Rattle.counting.proofs.Counts.{count_same, sum_alike}
use Rattle.schedule.specs.Plan.{Sheet, Plan, finish, plan_end, Lasting}
use Rattle.schedule.specs.ListPlan.{PartPlan, occupied}
use Rattle.schedule.specs.Bounds.{kept, gain, ServesFrom}
use Rattle.schedule.proofs.Occupied.{occupied_falls}
use Rattle.schedule.proofs.Lanes.{StaysOpen, lanes_bound}
use Rattle.schedule.proofs.Filling.{put_on_lanes}
use Rattle.schedule.proofs.Weights.{GoesOn, minute_weight}

-- ---- the reach of a lane, minute by minute

module _ (Z : ℕ → ℕ) (none : Z 0 ≡ 0) where
  gain_next : (T t : ℕ) → gain Z (suc T) (suc t) ≡ gain Z T t
  gain_next T t =
      let a : suc T - suc t ≡ T - t = omega arith in
      let b : suc T - suc (suc t) ≡ T - suc t = omega arith in
      rw (a, b) refl

  module _ (T : ℕ) (p : ℕ → Bool) (stays : (t u : ℕ) → t ≤ u → p t ≡ true → p u ≡ true)
      (rises : Rises (suc T) Z)
      (rec : Z (count T (λ t. p (suc t))) ≡ sum T (λ t. only (p (suc t)) (gain Z T t))) where
    one_more : sum (suc T) (λ t. only (p t) (gain Z (suc T) t)) ≡ only (p 0) (gain Z (suc T) 0) + Z (count T (λ t. p (suc t)))
    one_more =
        let later = sum_same T (λ t. only (p (suc t)) (gain Z (suc T) (suc t))) (λ t. only (p (suc t)) (gain Z T t))
        (λ t l. ap (λ (x : ℕ). only (p (suc t)) x) (gain_next T t)) in
        omega (arith, later, rec, sum_first T (λ t. only (p t) (gain Z (suc T) t)))

    gains_more : (b : Bool) → p 0 ≡ b → Z (count (suc T) p) ≡ sum (suc T) (λ t. only (p t) (gain Z (suc T) t))
    gains_more true e =
        let all : count T (λ t. p (suc t)) ≡ T * 1 =
        count_same T (λ t. p (suc t)) (λ t. true) (λ t l. stays 0 (suc t) zero-le e) ∙ sum_const T 1 in
        let full : count (suc T) p ≡ suc T = sum_first T (λ t. only (p t) 1) ∙ rw e (omega (arith, all)) in
        let here : count T (λ t. p (suc t)) ≡ T = omega (arith, all) in
        let sums : sum (suc T) (λ t. only (p t) (gain Z (suc T) t)) ≡ gain Z (suc T) 0 + Z T = one_more ∙ rw (e, here) refl in
        let a : Z (suc T - 0) ≡ Z (suc T) = ap Z (omega arith) in
        let b : Z (suc T - 1) ≡ Z T = ap Z (omega arith) in
        ap Z full ∙ omega (arith, sums, a, b, rises T (suc T) (omega arith) (le_refl _))
    gains_more false e =
        let less : count (suc T) p ≡ count T (λ t. p (suc t)) = sum_first T (λ t. only (p t) 1) ∙ rw e (omega arith) in
        let sums : sum (suc T) (λ t. only (p t) (gain Z (suc T) t)) ≡ 0 + Z (count T (λ t. p (suc t))) = one_more ∙ rw e refl in
        ap Z less ∙ omega (arith, sums)

  -- a lane that is open from some minute on
  pub by_gains : (T : ℕ) (p : ℕ → Bool) → ((t u : ℕ) → t ≤ u → p t ≡ true → p u ≡ true) → Rises T Z
      → Z (count T p) ≡ sum T (λ t. only (p t) (gain Z T t))
  unfolding sum
  by_gains zero p stays rises = none
  by_gains (suc T) p stays rises = gains_more T p stays rises
      (by_gains T (λ t. p (suc t)) (λ t u l. stays (suc t) (suc u) (omega arith)) (λ a b l m. rises a b l (omega arith))) (p 0) refl

-- ---- the lanes of a part-plan

-- so many numbers are below g
count_below : (n g : ℕ) → g ≤ n → count n (λ m. ltb m g) ≡ g
count_below n g l =
    sum_same n (λ m. only (ltb m g) 1) (λ m. only (inside 0 g m) 1) (λ m x. rw (le-leb 0 m zero-le) refl)
    ∙ sum_inside n 0 g 1 ∙ omega arith

module _ (S : Sheet) (lasting : Lasting S) (P : PartPlan) (l : ℕ) (Q : Plan) (h : GoesOn S P l Q) (C : ℕ) (e : plan_end S Q + S.rest ≤ C)
    (r w y K Z : ℕ → ℕ) (from : (k : ℕ) → k < S.jobs → P.placed k ≡ false → r k ≤ Q.start k)
    (most : Holds S.need S.jobs S.modules w K) (more : Rises S.modules K)
    (serves : ServesFrom S P C r y Z) (none : Z 0 ≡ 0) (rises : Rises C Z) where
  -- the lanes that are open at minute t
  width : ℕ → ℕ
  width t = K (S.modules - occupied S P t)

  is_open : ℕ → ℕ → Bool
  is_open m t = leb l t && ltb m (width t)

  stays : StaysOpen is_open
  unfolding is_open width
  stays m t u x b =
      let from = leb-true l t (and_left (leb l t) _ b) in
      let low = ltb-true m (width t) (and_right (leb l t) _ b) in
      let wider = more (S.modules - occupied S P t) (S.modules - occupied S P u) (omega (arith, occupied_falls S P t u x)) (omega arith) in
      and_both _ _ (le-leb l u (omega arith)) (lt-ltb m (width u) (omega arith))

  open_at : (t : ℕ) → count (K S.modules) (λ m. is_open m t) ≡ only (leb l t) (width t)
  unfolding is_open width
  open_at t = go (leb l t) refl
    where
      go : (b : Bool) → leb l t ≡ b → count (K S.modules) (λ m. leb l t && ltb m (width t)) ≡ only (leb l t) (width t)
      go true q = rw q (count_below (K S.modules) (width t) (more (S.modules - occupied S P t) S.modules (omega arith) (omega arith)))
      go false q = rw q (sum-zero (K S.modules))

  -- The jobs that are left have no more value than the lanes can serve.
  pub reach_bound : sum S.jobs (λ k. only (not (P.placed k)) (w k * y k))
      ≤ sum C (λ t. only (leb l t) (K (S.modules - occupied S P t) * gain Z C t))
  unfolding width
  reach_bound =
      let lanes = put_on_lanes S.jobs (λ k. not (P.placed k)) Q.start (kept S) w (K S.modules) is_open
      (λ k x. omega (arith, lasting k x))
      (λ t. omega (arith, minute_weight S P l Q h w K most t, open_at t)) in
      let bound = lanes_bound S.jobs (λ k. not (P.placed k)) Q.start (kept S) w (K S.modules) is_open lanes.0 lanes.1 stays
      C (λ k x p. omega (arith, e, le-largest S.jobs (finish S Q) k x)) r (λ k x p. from k x (not-true (P.placed k) p)) y Z
      (λ X x a b. serves X x a (λ k p. not-true (P.placed k) (b k p))) in
      let M = K S.modules in
      let gains = sum_same M (λ m. Z (count C (is_open m))) (λ m. sum C (λ t. only (is_open m t) (gain Z C t)))
      (λ m x. by_gains Z none C (is_open m) (stays m) rises) in
      let swap = sum_swap M C (λ m t. only (is_open m t) (gain Z C t)) in
      let each = sum_same C (λ t. sum M (λ m. only (is_open m t) (gain Z C t)))
      (λ t. only (leb l t) (K (S.modules - occupied S P t) * gain Z C t)) (λ t x. minute t) in
      omega (arith, bound, gains, swap, each)
    where
      minute : (t : ℕ) → sum (K S.modules) (λ m. only (is_open m t) (gain Z C t))
          ≡ only (leb l t) (K (S.modules - occupied S P t) * gain Z C t)
      minute t =
          sum_alike (K S.modules) (λ m. is_open m t) (gain Z C t) ∙ ap (λ (x : ℕ). x * gain Z C t) (open_at t)
          ∙ only-mul (leb l t) (width t) (gain Z C t)
