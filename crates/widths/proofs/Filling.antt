-- The free modules that a sum of widths fills.
use mathlib.Core.Path.{◌≡◌, refl}
use mathlib.Core.Logic.{◌⊎◌, inl, inr}
use mathlib.Core.Bool.{Bool, true, false}
use mathlib.Core.List.{List}
use Prim.Native.Nat.{ℕ, suc, ◌-◌, ◌≤◌, ◌<◌}
use native.Mathlib.Omega.{arith}
use native.Mathlib.Nat.{le_antisymm}
use borrow.Author.Tests.{lt-ltb, le-ltb}
use Rattle.counting.specs.Counting.{only, largest}
use Rattle.counting.proofs.Tests.{true-or-false, less-or-not}
use Rattle.counting.proofs.Ranges.{le-largest, largest-le}
use Rattle.bits.specs.Bits.{bit}
use Rattle.tables.specs.declared.Jobs.{Jobs}
use Rattle.tables.specs.Tables.{count_of}
use Rattle.widths.specs.Widths.{limit, width_of, WidthsOf, filled_of}

only-le : (b : Bool) (x : ℕ) → only b x ≤ x
only-le true x = omega arith
only-le false x = omega arith

filled_below : (sums f : ℕ) → f < limit → filled_of sums f ≡ largest (suc f) (λ s. only (bit sums s) s)
unfolding filled_of
filled_below sums f l = rw (lt-ltb f limit l) refl

pub filled_above : (sums f : ℕ) → limit ≤ f → filled_of sums f ≡ f
unfolding filled_of
filled_above sums f l = rw (le-ltb f limit l) refl

pub filled-le : (sums f : ℕ) → filled_of sums f ≤ f
filled-le sums f = go (less-or-not f limit)
  where
    go : (f < limit) ⊎ (limit ≤ f) → filled_of sums f ≤ f
    go (inl l) =
        omega (arith, filled_below sums f l, largest-le (suc f) (λ s. only (bit sums s) s) f (λ i m. omega (arith, only-le (bit sums i) i)))
    go (inr l) = omega (arith, filled_above sums f l)

-- a sum that f modules have room for fills no more than is filled
pub filled-holds : (sums f s : ℕ) → s ≤ f → (s < limit → bit sums s ≡ true) → s ≤ filled_of sums f
filled-holds sums f s l h = go (less-or-not f limit)
  where
    go : (f < limit) ⊎ (limit ≤ f) → s ≤ filled_of sums f
    go (inl m) =
        let here : only (bit sums s) s ≡ s = rw (h (omega arith)) refl in
        omega (arith, filled_below sums f m, here, le-largest (suc f) (λ s. only (bit sums s) s) s (omega arith))
    go (inr m) = omega (arith, filled_above sums f m)

pub filled-rises : (sums a b : ℕ) → a ≤ b → filled_of sums a ≤ filled_of sums b
filled-rises sums a b l = go (less-or-not a limit)
  where
    go : (a < limit) ⊎ (limit ≤ a) → filled_of sums a ≤ filled_of sums b
    go (inl m) =
        omega (arith, filled_below sums a m, largest-le (suc a) (λ s. only (bit sums s) s) (filled_of sums b) (λ i k. one i k (true-or-false (bit sums i))))
      where
        one : (i : ℕ) → i < suc a → (bit sums i ≡ true) ⊎ (bit sums i ≡ false) → only (bit sums i) i ≤ filled_of sums b
        one i k (inl e) = rw e (filled-holds sums b i (omega arith) (λ n. e))
        one i k (inr e) = rw e (omega arith)
    go (inr m) = omega (arith, filled_above sums a m, filled_above sums b (omega arith))

-- the greatest sum up to f, or none
pub filled_is : (sums f s : ℕ) → f < limit → s ≤ f → (bit sums s ≡ true) ⊎ (s ≡ 0) → ((x : ℕ) → s < x → x ≤ f → bit sums x ≡ false)
    → s ≡ filled_of sums f
filled_is sums f s l m has none =
    le_antisymm (at has)
    (omega (arith, filled_below sums f l, largest-le (suc f) (λ s. only (bit sums s) s) s (λ i k. one i k (less-or-not s i) (true-or-false (bit sums i)))))
  where
    at : (bit sums s ≡ true) ⊎ (s ≡ 0) → s ≤ filled_of sums f
    at (inl e) = filled-holds sums f s m (λ n. e)
    at (inr e) = omega arith

    one : (i : ℕ) → i < suc f → (s < i) ⊎ (i ≤ s) → (bit sums i ≡ true) ⊎ (bit sums i ≡ false) → only (bit sums i) i ≤ s
    one i k (inl o) e = rw (none i o (omega arith)) (omega arith)
    one i k (inr o) e = omega (arith, only-le (bit sums i) i)

-- no sum lies above the number before s if none lies above s and s is none
pub none_above : (sums s f : ℕ) → bit sums s ≡ false → ((x : ℕ) → s < x → x ≤ f → bit sums x ≡ false) → (x : ℕ) → s - 1 < x → x ≤ f
    → bit sums x ≡ false
none_above sums s f e none x l m = go (less-or-not s x)
  where
    go : (s < x) ⊎ (x ≤ s) → bit sums x ≡ false
    go (inl o) = none x o m
    go (inr o) = let same : x ≡ s = omega arith in rw same e

-- what jobs of the set need on f modules is no more than is filled
pub widths_hold : {t : Jobs} {set sums : ℕ} → WidthsOf t set sums → (X : ℕ → Bool) (f : ℕ)
    → ((k : ℕ) → k < count_of t → X k ≡ true → bit set k ≡ true) → width_of t X ≤ f → width_of t X ≤ filled_of sums f
widths_hold {t} {sums = sums} h X f inside l = filled-holds sums f (width_of t X) l (h.each X inside)
