-- What can stand on the free modules, walked from one end of a placed job to the next.
use mathlib.Core.Path.{◌≡◌, ap}
use mathlib.Core.Logic.{◌⊎◌, inl, inr}
use mathlib.Core.List.{List}
use Prim.Native.Nat.{ℕ, ◌+◌, ◌-◌, ◌*◌, ◌≤◌, ◌<◌, min, max}
use native.Mathlib.Omega.{arith}
use native.Mathlib.Nat.{mul-le-mul_right, le_refl}
use lib.ListN.{get_or}
use Rattle.counting.specs.Counting.{only, sum}
use Rattle.counting.proofs.Tests.{last-or_below}
use Rattle.counting.proofs.Sums.{sum_same}
use Rattle.counting.proofs.Intervals.{sum_from, sum_past}
use Rattle.figures.specs.Figures.{most_jobs, most_modules}
use Rattle.bits.specs.Bits.{bit}
use Rattle.tables.specs.declared.Jobs.{Jobs}
use Rattle.tables.specs.Tables.{kept_at, count_of, modules_of}
use Rattle.tables.specs.declared.Part.{Part}
use Rattle.placement.specs.Profile.{held_of, held_from, Sorted, ProfileOf}
use Rattle.placement.proofs.Profiles.{held_from-step, held-at-le, held_from-le}
use Rattle.weights.specs.Weights.{weightings, all_weight, Weighting, room_for, Outweighed}

-- ---- from one end to the next

-- from minute `at` on f modules are free until the i-th ends
pub record Walk (p : Part) (modules T at f i : ℕ) : Type 0 where
  pub narrow : modules ≤ most_modules
  pub sorted : Sorted p.until p.placed
  pub few : p.placed ≤ most_jobs
  pub inside : i ≤ p.placed
  pub balance : f + held_from p.held p.placed i ≡ modules
  pub before : at ≤ T
  pub ended : (k : ℕ) → k < i → min (get_or p.until k 0) T ≤ at

pub walk_start : (p : Part) {gone free modules l T : ℕ} → ProfileOf p gone free modules l → modules ≤ most_modules → l ≤ T
    → Walk p modules T l free gone
walk_start p h narrow before = record {
  narrow = narrow;
  sorted = h.sorted;
  few = h.few;
  inside = h.inside;
  balance = h.balance;
  before = before;
  ended = λ k m. omega (arith, h.ended k m);
}

-- the room up to minute `at`
pub record Room (most : ℕ → ℕ) (p : Part) (modules l T room at : ℕ) : Type 0 where
  pub small : (x : ℕ) → x ≤ modules → most x ≤ all_weight
  pub low : room ≤ all_weight * at
  pub all : room + room_for most modules p at T ≡ room_for most modules p l T

pub room_start : {most : ℕ → ℕ} {p : Part} {modules l T room : ℕ} → ((x : ℕ) → x ≤ modules → most x ≤ all_weight) → room ≡ 0
    → Room most p modules l T room l
room_start small none = record { small = small; low = omega arith; all = omega arith }

module _ {p : Part} {modules T at f i : ℕ} (w : Walk p modules T at f i) where
  pub walk_fits : i < p.placed → f + get_or p.held i 0 ≤ most_modules
  walk_fits m = omega (arith, w.balance, w.narrow, held_from-step p.until p.held p.placed i m)

  pub walk_step : i < p.placed → Walk p modules T (max at (min (get_or p.until i 0) T)) (f + get_or p.held i 0) (i + 1)
  walk_step m = record {
    narrow = w.narrow;
    sorted = w.sorted;
    few = w.few;
    inside = omega arith;
    balance = omega (arith, w.balance, held_from-step p.until p.held p.placed i m);
    before = omega (arith, w.before);
    ended = λ k n. ended k (last-or_below i k (omega arith));
  }
    where
      ended : (k : ℕ) → (k ≡ i) ⊎ (k < i) → min (get_or p.until k 0) T ≤ max at (min (get_or p.until i 0) T)
      ended k (inl e) = rw e (omega arith)
      ended k (inr n) = omega (arith, w.ended k n)

  -- the modules that are free while the i-th is the next to end
  pub free-at : (t : ℕ) → at ≤ t → t < T → ((k : ℕ) → i ≤ k → k < p.placed → t < get_or p.until k 0) → modules - held_of p t ≡ f
  free-at t a b n = omega (
    arith,
    w.balance,
    held-at-le p.until p.held p.placed i t (λ k m. omega (arith, w.ended k m)),
    held_from-le p.until p.held p.placed i t n,
  )

  module _ {most : ℕ → ℕ} {l room : ℕ} (h : Room most p modules l T room at) where
    pub room_low : (b : ℕ) → at ≤ b → room + most f * (b - at) ≤ all_weight * b
    room_low b x = omega (arith, h.low, mul-le-mul_right (b - at) (h.small f (omega (arith, w.balance))))

    -- the room up to a minute before which none of the others ends
    room_to : (b : ℕ) → at ≤ b → b ≤ T → ((t k : ℕ) → at ≤ t → t < b → i ≤ k → k < p.placed → t < get_or p.until k 0)
        → room + most f * (b - at) + room_for most modules p b T ≡ room_for most modules p l T
    unfolding room_for
    room_to b x y n =
        let s = sum_from T at b (most f) (λ t. most (modules - held_of p t)) x y
        (λ t d e. ap most (free-at t d (omega arith) (λ k m o. n t k d e m o))) in
        omega (arith, h.all)

    pub room-step : Room most p modules l T (room + most f * (max at (min (get_or p.until i 0) T) - at))
        (max at (min (get_or p.until i 0) T))
    room-step = record {
      small = h.small;
      low = room_low (max at (min (get_or p.until i 0) T)) (omega arith);
      all = room_to (max at (min (get_or p.until i 0) T)) (omega arith) (omega (arith, w.before))
          (λ t k x y n o. omega (arith, w.sorted i k n o));
    }

    pub room-done : p.placed ≤ i → room + most f * (T - at) ≡ room_for most modules p l T
    unfolding room_for
    room-done m =
        let all = room_to T w.before (le_refl _) (λ t k x y n o. absurd (omega arith)) in
        omega (arith, sum_past T (λ t. most (modules - held_of p t)))

-- ---- the weightings' answer

pub outweighs : {t : Jobs} {p : Part} {worth most : List ℕ} {q l T : ℕ} → Weighting t worth most q
    → room_for (λ x. get_or most (x * weightings + q) 0) (modules_of t) p l T
    < sum (count_of t) (λ k. only (bit p.unplaced k) (get_or worth (k * weightings + q) 0)) → Outweighed t p l T
unfolding room_for
outweighs {t} {p} {worth} {most} {q} w over = record {
  weight = w.weight;
  most = λ x. get_or most (x * weightings + q) 0;
  weighs = w.weighs;
  over = omega (
    arith,
    over,
    sum_same (count_of t) (λ k. only (bit p.unplaced k) (get_or worth (k * weightings + q) 0))
        (λ k. only (bit p.unplaced k) (kept_at t k * w.weight k)) (λ k m. ap (λ (x : ℕ). only (bit p.unplaced k) x) (w.worth_is k m)),
  );
}
