-- Lanes, each of which serves jobs one after another from the minute on at which it opens, and what they serve.
use mathlib.Core.Path.{◌≡◌, refl, sym, ap, ◌∙◌}
use mathlib.Core.Logic.{◌⊎◌, inl, inr, ⊎_elim, ◌≢◌}
use mathlib.Core.Bool.{Bool, true, false, ◌&&◌, and-true, and_comm}
use Prim.Native.Nat.{ℕ, ◌+◌, ◌-◌, ◌*◌, ◌≤◌, ◌<◌, zero-le, min}
use native.Mathlib.Omega.{arith}
use lib.Dec.{leb, eqb}
use borrow.Author.Tests.{ltb-true, leb-true, lt-ltb, le-leb, eqb-true, eqb-false}
use Rattle.counting.specs.Counting.{only, sum, count}
use Rattle.counting.proofs.Tests.{true-or-false, clash, and_left, and_right}
use Rattle.counting.proofs.Sums.{sum-le, sum_same, sum_swap, sum-zero}
use Rattle.counting.proofs.Intervals.{inside, sum_inside}
use Rattle.counting.proofs.Counts.{count-le, count_one, count_none, sum_alike}

-- each of these jobs fills as many lanes as it weighs, which are open from its start on, and two jobs on a lane do not overlap
pub record OnLanes (jobs : ℕ) (of : ℕ → Bool) (start minutes weight : ℕ → ℕ) (lanes : ℕ) (is_open uses : ℕ → ℕ → Bool) : Type 0 where
  pub enough : (k : ℕ) → k < jobs → of k ≡ true → count lanes (uses k) ≡ weight k
  pub opened : (k m : ℕ) → k < jobs → of k ≡ true → uses k m ≡ true → is_open m (start k) ≡ true
  pub apart : (i k m : ℕ) → i < jobs → k < jobs → of i ≡ true → of k ≡ true → i ≢ k → uses i m ≡ true → uses k m ≡ true
      → (start i + minutes i ≤ start k) ⊎ (start k + minutes k ≤ start i)

-- a lane that is open stays open
abbrev pub StaysOpen : (ℕ → ℕ → Bool) → Type 0
StaysOpen is_open = (m t u : ℕ) → t ≤ u → is_open m t ≡ true → is_open m u ≡ true

-- a lane that is open from minute a on
pub minutes_from_lem : (T a : ℕ) → count T (λ t. leb a t) ≡ T - a
minutes_from_lem T a = sum_same T _ (λ t. only (inside a T t) 1) below ∙ sum_inside T a T 1 ∙ omega arith
  where
    below : (t : ℕ) → t < T → only (leb a t) 1 ≡ only (inside a T t) 1
    below t x = rw (lt-ltb t T x) (ap (λ (b : Bool). only b 1) (sym (and-true (leb a t))))

-- ---- what lanes serve

module _ (jobs : ℕ) (of : ℕ → Bool) (start minutes weight : ℕ → ℕ) (lanes : ℕ) (is_open uses : ℕ → ℕ → Bool)
    (h : OnLanes jobs of start minutes weight lanes is_open uses) (stays : StaysOpen is_open)
    (T : ℕ) (ends : (k : ℕ) → k < jobs → of k ≡ true → start k + minutes k ≤ T) where
  abbrev served : ℕ → ℕ → Bool
  served m k = of k && uses k m

  busy : ℕ → ℕ → ℕ → Bool
  busy m t k = served m k && inside (start k) (start k + minutes k) t

  over_minutes : (m k : ℕ) → k < jobs → only (served m k) (minutes k) ≡ sum T (λ t. only (busy m t k) 1)
  unfolding busy
  over_minutes m k x = go (served m k) refl
    where
      go : (b : Bool) → served m k ≡ b
          → only (served m k) (minutes k) ≡ sum T (λ t. only (served m k && inside (start k) (start k + minutes k) t) 1)
      go true q =
          let d : minutes k ≡ (min T (start k + minutes k) - start k) * 1 = omega (arith, ends k x (and_left (of k) _ q)) in
          rw q (d ∙ sym (sum_inside T (start k) (start k + minutes k) 1))
      go false q = rw q (sym (sum-zero T))

  -- two jobs do not share a minute of a lane
  alone : (m t i k : ℕ) → i < jobs → k < jobs → busy m t i ≡ true → busy m t k ≡ true → (b : Bool) → eqb i k ≡ b → i ≡ k
  unfolding busy
  alone m t i k x z a b true q = eqb-true i k q
  alone m t i k x z a b false q =
      let a1 = leb-true (start i) t (and_left (leb (start i) t) _ (and_right (served m i) _ a)) in
      let a2 = ltb-true t (start i + minutes i) (and_right (leb (start i) t) _ (and_right (served m i) _ a)) in
      let b1 = leb-true (start k) t (and_left (leb (start k) t) _ (and_right (served m k) _ b)) in
      let b2 = ltb-true t (start k + minutes k) (and_right (leb (start k) t) _ (and_right (served m k) _ b)) in
      let si = and_left (served m i) _ a in
      let sk = and_left (served m k) _ b in
      ⊎_elim (λ d. absurd (omega arith)) (λ d. absurd (omega arith))
      (h.apart i k m x z (and_left (of i) _ si) (and_left (of k) _ sk) (eqb-false i k q) (and_right (of i) _ si) (and_right (of k) _ sk))

  minute : (m t : ℕ) → (is_open m t ≡ true) ⊎ (is_open m t ≡ false) → sum jobs (λ k. only (busy m t k) 1) ≤ only (is_open m t) 1
  unfolding busy
  minute m t (inl c) = rw c (count_one jobs (busy m t) (λ i k x z a b. alone m t i k x z a b (eqb i k) refl))
  minute m t (inr c) =
      let none : count jobs (busy m t) ≡ 0 = count_none jobs (busy m t) (λ k x. idle k x (true-or-false (busy m t k))) in
      rw none zero-le
    where
      idle : (k : ℕ) → k < jobs → (busy m t k ≡ true) ⊎ (busy m t k ≡ false) → busy m t k ≡ false
      idle k x (inr b) = b
      idle k x (inl b) =
          let s = and_left (served m k) _ b in
          let on = leb-true (start k) t (and_left (leb (start k) t) _ (and_right (served m k) _ b)) in
          clash (is_open m t) (stays m (start k) t on (h.opened k m x (and_left (of k) _ s) (and_right (of k) _ s))) c

  served_minutes : (m : ℕ) → sum jobs (λ k. only (served m k) (minutes k)) ≤ count T (is_open m)
  served_minutes m =
      let all = sum_same jobs _ (λ k. sum T (λ t. only (busy m t k) 1)) (over_minutes m) ∙ sum_swap jobs T (λ k t. only (busy m t k) 1) in
      let each = sum-le T (λ t. sum jobs (λ k. only (busy m t k) 1)) (λ t. only (is_open m t) 1) (λ t x. minute m t (true-or-false (is_open m t))) in
      omega (arith, all, each)

-- ---- the same, and of the jobs that start late

module _ (jobs : ℕ) (of : ℕ → Bool) (start minutes weight : ℕ → ℕ) (lanes : ℕ) (is_open uses : ℕ → ℕ → Bool)
    (h : OnLanes jobs of start minutes weight lanes is_open uses) (stays : StaysOpen is_open)
    (T : ℕ) (ends : (k : ℕ) → k < jobs → of k ≡ true → start k + minutes k ≤ T)
    (r : ℕ → ℕ) (from : (k : ℕ) → k < jobs → of k ≡ true → r k ≤ start k) where
  -- the jobs of lane m
  abbrev on : ℕ → ℕ → Bool
  on m k = of k && uses k m

  -- the jobs that start from minute a on, as on lanes that open then
  late : (a : ℕ) → OnLanes jobs (λ k. of k && leb a (r k)) start minutes weight lanes (λ m t. leb a t) uses
  late a = record {
    enough = λ k x b. h.enough k x (and_left (of k) _ b);
    opened = λ k m x b u. le-leb a (start k)
        (omega (arith, from k x (and_left (of k) _ b), leb-true a (r k) (and_right (of k) _ b)));
    apart = λ i k m x z b c. h.apart i k m x z (and_left (of i) _ b) (and_left (of k) _ c);
  }

  late_minutes : (m a : ℕ) → sum jobs (λ k. only (on m k && leb a (r k)) (minutes k)) ≤ T - a
  late_minutes m a =
      let same = sum_same jobs (λ k. only (on m k && leb a (r k)) (minutes k)) (λ k. only ((of k && leb a (r k)) && uses k m) (minutes k))
      (λ k x. ap (λ b. only b (minutes k)) (and_turned (of k) (uses k m) (leb a (r k)))) in
      let most = served_minutes jobs (λ k. of k && leb a (r k)) start minutes weight lanes (λ m t. leb a t) uses (late a)
      (λ m t u x b. le-leb a u (omega (arith, leb-true a t b))) T (λ k x b. ends k x (and_left (of k) _ b)) m in
      omega (arith, same, most, minutes_from_lem T a)
    where
      and_turned : (a b c : Bool) → ((a && b) && c) ≡ ((a && c) && b)
      and_turned true b c = and_comm b c
      and_turned false b c = refl

  over_lanes : (y : ℕ → ℕ) (k : ℕ) → k < jobs → only (of k) (weight k * y k) ≡ sum lanes (λ m. only (on m k) (y k))
  over_lanes y k x = go (of k) refl
    where
      go : (b : Bool) → of k ≡ b → only (of k) (weight k * y k) ≡ sum lanes (λ m. only (on m k) (y k))
      go true q =
          rw q (ap (λ (c : ℕ). c * y k) (sym (h.enough k x q)) ∙ sym (sum_alike lanes (uses k) (y k)))
      go false q = rw q (sym (sum-zero lanes))

  -- The jobs have no more value than the lanes can serve in the minutes that they are open.
  pub lanes_bound : (y Z : ℕ → ℕ)
      → ((X : ℕ → Bool) (x : ℕ) → x ≤ T → ((k : ℕ) → X k ≡ true → of k ≡ true) → sum jobs (λ k. only (X k) (minutes k)) ≤ x
      → ((a : ℕ) → sum jobs (λ k. only (X k && leb a (r k)) (minutes k)) ≤ T - a)
      → sum jobs (λ k. only (X k) (y k)) ≤ Z x)
      → sum jobs (λ k. only (of k) (weight k * y k)) ≤ sum lanes (λ m. Z (count T (is_open m)))
  lanes_bound y Z most =
      let all = sum_same jobs _ (λ k. sum lanes (λ m. only (on m k) (y k))) (over_lanes y)
      ∙ sum_swap jobs lanes (λ k m. only (on m k) (y k)) in
      let each = sum-le lanes (λ m. sum jobs (λ k. only (on m k) (y k))) (λ m. Z (count T (is_open m)))
      (λ m x. most (on m) (count T (is_open m)) (count-le T (is_open m)) (λ k b. and_left (of k) _ b)
      (served_minutes jobs of start minutes weight lanes is_open uses h stays T ends m) (late_minutes m)) in
      omega (arith, all, each)
