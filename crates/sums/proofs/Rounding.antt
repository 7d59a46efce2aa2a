-- At which minutes an order can end: at sums of minutes where all jobs are here and modules need no rest, and at multiples of what divides
-- the changeover, all minutes and all arrivals.
use mathlib.Core.Path.{◌≡◌, ap}
use mathlib.Core.Bool.{Bool}
use mathlib.Core.Logic.{◌⊎◌, inl, inr}
use mathlib.Core.List.{List}
use Prim.Native.Nat.{ℕ, ◌+◌, ◌*◌, ◌/◌, ◌<◌, ◌∣◌}
use native.Mathlib.Omega.{arith}
use native.Mathlib.Nat.{dvd_trans, div-mul-le_self}
use Rattle.counting.specs.Counting.{only, sum}
use Rattle.counting.proofs.Tests.{last-or_below}
use Rattle.counting.proofs.Sums.{sum_same}
use Rattle.schedule.proofs.EndSums.{end-sum}
use Rattle.schedule.proofs.Multiples.{multiple_below, end_multiple}
use Rattle.tables.specs.declared.Jobs.{Jobs}
use Rattle.tables.specs.Tables.{minutes_at, arrival_at, kept_at, count_of, changeover_of, sheet_of, Fit}
use Rattle.choices.specs.Choices.{together}
use Rattle.sums.specs.Sums.{Rounded, AllHere, Step, RoundedToSum}

module _ (t : Jobs) (fit : Fit t) (x r : ℕ) where
  -- without a rest a job keeps its modules for its minutes
  minutes-together : changeover_of t ≡ 0 → (X : ℕ → Bool) → sum (count_of t) (λ k. only (X k) (minutes_at t k)) ≡ together t (count_of t) X
  minutes-together none X = sum_same (count_of t) _ _ (λ k l.
      let same : minutes_at t k ≡ kept_at t k = omega (arith, none, fit.keeps k l) in
      ap (λ (m : ℕ). only (X k) m) same)

  pub by_sums : changeover_of t ≡ 0 → AllHere t (count_of t) → RoundedToSum t x r → Rounded t x r
  by_sums none here h = record {
    below = h.below;
    none_between = λ o d l.
        let e = end-sum (sheet_of t) fit.narrow here none o d in
        let same = minutes-together none e.0 in
        omega (arith, e.1, same, h.none_between e.0 (omega (arith, e.1, same)));
  }

pub by-steps : (t : Jobs) → Fit t → (x g : ℕ) → 0 < g → Step t (count_of t) g → Rounded t x (x / g * g)
by-steps t fit x g some h = record {
  below = div-mul-le_self x g;
  none_between = λ o d l.
      multiple_below g _ x some
      (end_multiple (sheet_of t) fit.narrow g some h.rests h.arrivals h.minutes o d) l;
}

-- one job more
pub step_more : (t : Jobs) (n g a b : ℕ) → Step t n g → a ∣ g → a ∣ minutes_at t n → b ∣ a → b ∣ arrival_at t n → Step t (n + 1) b
step_more t n g a b h p q r s = record {
  rests = dvd_trans b d h.rests;
  minutes = λ j l. minutes j (last-or_below n j (omega arith));
  arrivals = λ j l. arrivals j (last-or_below n j (omega arith));
}
  where
    d : b ∣ g
    d = dvd_trans b r p

    minutes : (j : ℕ) → (j ≡ n) ⊎ (j < n) → b ∣ minutes_at t j
    minutes j (inl e) = rw e (dvd_trans b r q)
    minutes j (inr m) = dvd_trans b d (h.minutes j m)

    arrivals : (j : ℕ) → (j ≡ n) ⊎ (j < n) → b ∣ arrival_at t j
    arrivals j (inl e) = rw e s
    arrivals j (inr m) = dvd_trans b d (h.arrivals j m)

pub here_more : (t : Jobs) (n : ℕ) → AllHere t n → arrival_at t n ≡ 0 → AllHere t (n + 1)
here_more t n h z j l = go (last-or_below n j (omega arith))
  where
    go : (j ≡ n) ⊎ (j < n) → arrival_at t j ≡ 0
    go (inl e) = rw e z
    go (inr m) = h j m
