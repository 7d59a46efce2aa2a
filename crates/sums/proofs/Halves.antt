-- The sums of all jobs from those of two halves.
use mathlib.Core.Path.{◌≡◌, refl, ◌∙◌}
use mathlib.Core.Bool.{Bool, true, false, not, cond, ◌&&◌}
use mathlib.Core.List.{List}
use Prim.Native.Nat.{ℕ, ◌+◌, ◌-◌, ◌≤◌, ◌<◌}
use native.Mathlib.Omega.{arith}
use lib.Dec.{leb}
use lib.ListN.{get_or}
use borrow.Author.Tests.{leb-true, le-leb, not-true}
use Rattle.counting.specs.Counting.{only, every, largest}
use Rattle.counting.proofs.Tests.{and_right, only_within}
use Rattle.counting.proofs.Sums.{sum_same, sum-add}
use Rattle.counting.proofs.Ranges.{le-largest, largest-le, every-at}
use Rattle.figures.specs.Figures.{most_jobs}
use Rattle.bits.specs.Bits.{bit}
use Rattle.tables.specs.declared.Jobs.{Jobs}
use Rattle.tables.specs.Tables.{kept_at, count_of}
use Rattle.choices.specs.Choices.{together, SumsOf, longest}
use Rattle.sums.specs.Sums.{longest_pair, RoundedToSum}
use Rattle.choices.proofs.Longest.{longest-le, longest_bounds}

-- jobs 0 to 9, and jobs 10 to 19
abbrev pub low_jobs : ℕ
low_jobs = 1023

abbrev pub high_jobs : ℕ
high_jobs = 1047552

in_one : ℕ → Bool
in_one k = cond (bit low_jobs k) (not (bit high_jobs k)) (bit high_jobs k)

-- each of 20 jobs is in one half only
halves : every most_jobs in_one ≡ true
unfolding every bit in_one
halves = refl

one_half : (b : Bool) (k x : ℕ) → k < most_jobs → only b x ≡ only (b && bit low_jobs k) x + only (b && bit high_jobs k) x
unfolding in_one
one_half false k x l = omega arith
one_half true k x l = go (bit low_jobs k) (bit high_jobs k) (every-at most_jobs in_one halves k l)
  where
    go : (p q : Bool) → cond p (not q) q ≡ true → x ≡ only p x + only q x
    go true q e = rw (not-true q e) (omega arith)
    go false q e = rw e (omega arith)

module _ {t : Jobs} {low : List ℕ} {lows : ℕ} {high : List ℕ} {highs : ℕ}
    (a : SumsOf t low_jobs (count_of t) low lows) (b : SumsOf t high_jobs (count_of t) high highs) (x : ℕ) where
  -- what the i-th low sum and a high one give together
  with_low : ℕ → ℕ
  with_low i = only (leb (get_or low i 0) x) (get_or low i 0 + longest high highs (x - get_or low i 0))

  -- a sum of all jobs is one of each half
  pub rounded_pair : count_of t ≤ most_jobs → 0 < lows → 0 < highs → RoundedToSum t x (longest_pair low lows high highs x)
  unfolding longest_pair with_low
  rounded_pair few l h = record {
    below = largest-le lows with_low x (λ i m. only_within (leb (get_or low i 0) x) (get_or low i 0 + longest high highs (x - get_or low i 0)) x
        (λ e. omega (arith, leb-true (get_or low i 0) x e, longest-le high highs (x - get_or low i 0))));
    none_between = λ X m. go X m (a.each l (λ k. X k && bit low_jobs k) (λ k. and_right (X k) (bit low_jobs k)));
  }
    where
      go : (X : ℕ → Bool) → together t (count_of t) X ≤ x
          → (i : ℕ) × (i < lows) × (get_or low i 0 ≡ together t (count_of t) (λ k. X k && bit low_jobs k))
          → together t (count_of t) X ≤ largest lows with_low
      go X m (i, n, e) =
          let split : together t (count_of t) X
          ≡ together t (count_of t) (λ k. X k && bit low_jobs k) + together t (count_of t) (λ k. X k && bit high_jobs k) =
          sum_same (count_of t) _ (λ k. only (X k && bit low_jobs k) (kept_at t k) + only (X k && bit high_jobs k) (kept_at t k))
          (λ k y. one_half (X k) k (kept_at t k) (omega arith))
          ∙ sum-add (count_of t) (λ k. only (X k && bit low_jobs k) (kept_at t k)) (λ k. only (X k && bit high_jobs k) (kept_at t k)) in
          let rest = longest_bounds high highs b h (λ k. X k && bit high_jobs k) (x - get_or low i 0)
          (λ k. and_right (X k) (bit high_jobs k)) (omega arith) in
          let most : get_or low i 0 + longest high highs (x - get_or low i 0) ≤ largest lows with_low =
          rw (le-leb (get_or low i 0) x (omega arith)) at (le-largest lows with_low i n) in
          omega arith
