-- What lanes serve, walked from one end of a placed job to the next.
use mathlib.Core.Path.{◌≡◌, refl, sym, ap, ◌∙◌}
use mathlib.Core.Bool.{Bool, true, false}
use mathlib.Core.List.{List}
use Prim.Native.Nat.{ℕ, zero, suc, ◌+◌, ◌-◌, ◌*◌, ◌/◌, ◌≤◌, ◌<◌, min, max}
use native.Mathlib.Omega.{arith}
use native.Mathlib.Nat.{le_refl, le_trans, mul-add, mul-le-mul_right, zero-div, div-mul-le_self, le-div_iff_mul-le}
use lib.Dec.{leb}
use lib.ListN.{get_or}
use Rattle.counting.specs.Counting.{only, sum, Rises}
use Rattle.counting.proofs.Sums.{sum-le, sum_same, sum-mul}
use Rattle.counting.proofs.Intervals.{sum_from, sum_past}
use Rattle.bits.specs.Bits.{bit}
use Rattle.schedule.specs.Bounds.{gain}
use Rattle.figures.specs.Figures.{most_modules}
use Rattle.tables.specs.declared.Jobs.{Jobs}
use Rattle.tables.specs.Tables.{kept_at, count_of, modules_of}
use Rattle.tables.specs.declared.Part.{Part}
use Rattle.placement.specs.Profile.{held_of, ProfileOf}
use Rattle.weights.specs.Weights.{all_weight}
use Rattle.weights.proofs.Walks.{Walk, free-at}
use Rattle.values.specs.Values.{steps, reach_at, most_at, worth_at, step_of, Laned}
use Rattle.lanes.specs.Lanes.{reach_in, served_on, most_served, ReachesTo, Serving, Overfull}

pub div-rises : (a b s : ℕ) → 0 < s → a ≤ b → a / s ≤ b / s
div-rises a b s pos x = (le-div_iff_mul-le pos).1 (le_trans (div-mul-le_self a s) x)

pub place_inside : (T t s : ℕ) → 0 < s → T / s < steps → (T - t) / s < steps
place_inside T t s pos l = omega (arith, div-rises (T - t) T s pos (omega arith))

-- ---- a stretch of minutes in which as many lanes are open

difference : (c x y z : ℕ) → y ≤ x → z ≤ y → c * (x - y) + c * (y - z) ≡ c * (x - z)
difference c x y z l m =
    let e : x - y + (y - z) ≡ x - z = omega arith in
    sym (mul-add c (x - y) (y - z)) ∙ ap (λ (n : ℕ). c * n) e

module _ (Z : ℕ → ℕ) (T : ℕ) (rises : Rises T Z) (g : ℕ → ℕ) (c : ℕ) where
  abbrev gains : ℕ → ℕ
  gains a = sum T (λ t. only (leb a t) (g t * gain Z T t))

  gains_from : (d a : ℕ) → a + d ≤ T → ((t : ℕ) → a ≤ t → t < a + d → g t ≡ c)
      → gains a ≡ c * (Z (T - a) - Z (T - (a + d))) + gains (a + d)
  gains_from zero a l h =
      let e : a + 0 ≡ a = omega arith in
      let z : Z (T - a) - Z (T - a) ≡ 0 = omega arith in
      rw (e, z) (omega arith)
  gains_from (suc d) a l h =
      let e : suc a + d ≡ a + suc d = omega arith in
      let rec : gains (suc a) ≡ c * (Z (T - suc a) - Z (T - (a + suc d))) + gains (a + suc d) =
      rw e at (gains_from d (suc a) (omega arith) (λ t x y. h t (omega arith) (omega arith))) in
      let one = sum_from T a (suc a) (c * gain Z T a) (λ t. g t * gain Z T t) (omega arith) (omega arith)
      (λ t x y. (let s : t ≡ a = omega arith in rw (h t x (omega arith), s) refl)) in
      let step : c * gain Z T a * (suc a - a) ≡ c * gain Z T a =
      (let u : suc a - a ≡ 1 = omega arith in rw u (omega arith)) in
      let all = difference c (Z (T - a)) (Z (T - suc a)) (Z (T - (a + suc d))) (rises (T - suc a) (T - a) (omega arith) (omega arith))
      (rises (T - (a + suc d)) (T - suc a) (omega arith) (omega arith)) in
      omega (arith, one, step, rec, all)

-- ---- the walk

module _ {most reaches : ℕ → ℕ} {p : Part} {gone free modules l T : ℕ} (s : Serving most reaches p gone free modules l T) where
  abbrev served : ℕ → ℕ
  served a = served_on most reaches modules p a T

  -- what is served up to minute `at`, from which a lane reaches so much
  pub record Served (total at reach : ℕ) : Type 0 where
    pub reach_is : reach ≡ reaches (T - at)
    pub low : total + all_weight * reach ≤ most_served
    pub all : total + served at ≡ served l

  pub serve_start : (reach : ℕ) → reach ≡ reaches (T - l) → Served 0 l reach
  serve_start reach e = record {
    reach_is = e;
    low = omega (arith, s.reach_small (T - l) (omega arith));
    all = omega arith;
  }

  module _ {at f i total reach : ℕ} (w : Walk p modules T at f i) (h : Served total at reach) where
    pub lanes_few : most f ≤ all_weight
    lanes_few = s.most_small f (omega (arith, w.balance, w.narrow))

    pub reach_falls : (b : ℕ) → at ≤ b → reaches (T - b) ≤ reach
    reach_falls b x = rw h.reach_is (s.reach-rises (T - b) (T - at) (omega arith) (omega arith))

    pub serve_low : (next : ℕ) → next ≤ reach → total + most f * (reach - next) + all_weight * next ≤ most_served
    serve_low next x = omega (arith, h.low, mul-le-mul_right (reach - next) lanes_few)

    pub serve_all_low : total + most f * reach ≤ most_served
    serve_all_low = omega (arith, h.low, mul-le-mul_right reach lanes_few)

    -- up to a minute before which none of the others ends
    serve_to : (b : ℕ) → at ≤ b → b ≤ T → ((t k : ℕ) → at ≤ t → t < b → i ≤ k → k < p.placed → t < get_or p.until k 0)
        → total + most f * (reach - reaches (T - b)) + served b ≡ served l
    unfolding served_on
    serve_to b x y n =
        let d : at + (b - at) ≡ b = omega arith in
        let g = gains_from reaches T s.reach-rises (λ t. most (modules - held_of p t)) (most f)
        (b - at) at (omega arith) (λ t u v. ap most (free-at w t u (omega arith) (λ k m o. n t k u (omega arith) m o))) in
        let step : served at ≡ most f * (reaches (T - at) - reaches (T - b)) + served b = rw d at g in
        rw h.reach_is (omega (arith, step, h.all))

    pub serve-step : (to next : ℕ) → to ≡ max at (min (get_or p.until i 0) T) → next ≡ reaches (T - to)
        → Served (total + most f * (reach - next)) to next
    serve-step to next e r =
        let on : at ≤ to = omega arith in
        let low : next ≤ reach = rw r (reach_falls to on) in
        record {
          reach_is = r;
          low = serve_low next low;
          all = rw r (serve_to to on (omega (arith, w.before)) (λ t k x y n o. omega (arith, w.sorted i k n o)));
        }

    pub serve-done : p.placed ≤ i → total + most f * reach ≡ served l
    unfolding served_on
    serve-done m =
        let all = serve_to T w.before (le_refl _) (λ t k x y n o. absurd (omega arith)) in
        let end : reaches (T - T) ≡ 0 = ap reaches (omega arith) ∙ s.reach-none in
        let whole : reach - reaches (T - T) ≡ reach = omega (arith, end) in
        let past = sum_past T (λ t. most (modules - held_of p t) * gain reaches T t) in
        let done : total + most f * reach + served T ≡ served l = rw whole at all in
        omega (arith, done, past)

-- ---- the lanes of a sheet

-- jobs that last x minutes together last no more whole steps than x minutes have
steps-together : (minutes : ℕ → ℕ) (jobs s : ℕ) → 0 < s → (X : ℕ → Bool) (x : ℕ) → sum jobs (λ k. only (X k) (minutes k)) ≤ x
    → sum jobs (λ k. only (X k) (minutes k / s)) ≤ x / s
steps-together minutes jobs s pos X x l =
    let each = sum-le jobs (λ k. only (X k) (minutes k / s) * s) (λ k. only (X k) (minutes k)) (λ k m. one k (X k)) in
    (le-div_iff_mul-le pos).1 (omega (arith, each, sum-mul jobs (λ k. only (X k) (minutes k / s)) s))
  where
    one : (k : ℕ) (b : Bool) → only b (minutes k / s) * s ≤ only b (minutes k)
    one k true = div-mul-le_self (minutes k) s
    one k false = omega arith

module _ {t : Jobs} {lanes : List ℕ} (h : Laned t lanes) (T : ℕ) (inside : ReachesTo lanes T) where
  inside-table : (x : ℕ) → x ≤ T → x / step_of lanes < steps
  inside-table x m = omega (arith, div-rises x T (step_of lanes) inside.0 m, inside.1)

  reach_in-rises : Rises T (reach_in lanes)
  reach_in-rises a b x y = h.reach-rises (a / step_of lanes) (b / step_of lanes) (div-rises a b (step_of lanes) inside.0 x)
      (inside-table b y)

  reach_in-none : reach_in lanes 0 ≡ 0
  reach_in-none = ap (reach_at lanes) (zero-div (step_of lanes)) ∙ h.reach-none

  pub serving : (p : Part) {gone free modules l : ℕ} → ProfileOf p gone free modules l → modules ≤ most_modules → l ≤ T
      → Serving (most_at lanes) (reach_in lanes) p gone free modules l T
  serving p profile narrow before = record {
    most_small = λ x m. h.most_small x (omega arith);
    reach-rises = reach_in-rises;
    reach-none = reach_in-none;
    reach_small = λ x m. omega (arith, h.reach_small (x / step_of lanes) (inside-table x m));
    profile = profile;
    narrow = narrow;
    before = before;
  }

  pub overfull_by : {p : Part} {l : ℕ} → served_on (most_at lanes) (reach_in lanes) (modules_of t) p l T
      < sum (count_of t) (λ k. only (bit p.unplaced k) (worth_at lanes k)) → Overfull t p l T
  overfull_by {p} over = record {
    weight = h.weight;
    value = h.value;
    most = most_at lanes;
    reach = reach_in lanes;
    weighs = h.weighs;
    most-rises = h.most-rises;
    lasts = λ X x m short. h.serves X (x / step_of lanes) (inside-table x m)
        (steps-together (kept_at t) (count_of t) (step_of lanes) inside.0 X x short);
    reach-rises = reach_in-rises;
    reach-none = reach_in-none;
    over = omega (
      arith,
      over,
      sum_same (count_of t) (λ k. only (bit p.unplaced k) (worth_at lanes k)) (λ k. only (bit p.unplaced k) (h.weight k * h.value k))
          (λ k m. ap (λ (x : ℕ). only (bit p.unplaced k) x) (h.worth_is k m)),
    );
  }
