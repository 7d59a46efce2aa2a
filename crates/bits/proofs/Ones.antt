-- The number of ones is the number of members.
use mathlib.Core.Path.{◌≡◌, refl, sym, ap, ◌∙◌}
use mathlib.Core.Bool.{Bool, true, false}
use Prim.Native.Nat.{ℕ, zero, suc, ◌+◌, ◌%◌, ◌/◌, ◌^◌, ◌<◌}
use native.Mathlib.Omega.{arith}
use native.Mathlib.Nat.{div-one}
use lib.Arith.{bin_ind, lt-one}
use lib.Count.{ones, ones_step}
use Rattle.counting.specs.Counting.{only, sum, count}
use Rattle.counting.proofs.Sums.{sum_first}
use Rattle.counting.proofs.Counts.{count_same, count_insert}
use Rattle.bits.specs.Bits.{bit, with_bit, without_bit, set_of}
use Rattle.bits.proofs.Digits.{bit-digit, bit-suc}
use Rattle.bits.proofs.Members.{bit_with, with-lt, bit_without_same, with_without}
use Rattle.bits.proofs.Sets.{set_of-lt, bit-set_of}
-- a number of k digits has at most k ones; the number of k ones has k
pub use lib.Count.{ones-le, ones-ones}

-- ---- none

pub ones_none : ones 0 ≡ 0
unfolding ones
ones_none = refl

pub ones-zero : (x : ℕ) → ones x ≡ 0 → x ≡ 0
ones-zero = bin_ind (λ (x : ℕ). ones x ≡ 0 → x ≡ 0) (λ e. refl) step
  where
    step : (x : ℕ) → (ones (x / 2) ≡ 0 → x / 2 ≡ 0) → ones x ≡ 0 → x ≡ 0
    step x h e = let half = h (omega (arith, ones_step x)) in omega (arith, ones_step x)

-- ---- as a count

pub ones-count : (n x : ℕ) → x < 2 ^ n → ones x ≡ count n (bit x)
unfolding sum
ones-count zero x l = ap ones (lt-one l) ∙ ones_none
ones-count (suc n) x l =
    let first : x % 2 ≡ only (bit x 0) 1 = ap (λ (y : ℕ). y % 2) (sym (div-one x)) ∙ bit-digit x 0 in
    let rest : count n (λ i. bit x (suc i)) ≡ count n (bit (x / 2)) = count_same n _ _ (λ i k. bit-suc x i) in
    omega (arith, ones_step x, ones-count n (x / 2) (omega arith), sum_first n (λ i. only (bit x i) 1))

pub ones-set_of : (n : ℕ) (f : ℕ → Bool) → ones (set_of n f) ≡ count n f
ones-set_of n f = ones-count n (set_of n f) (set_of-lt n f) ∙ count_same n (bit (set_of n f)) f (bit-set_of n f)

-- ---- one member more, and one less

-- n digits are enough for n
below-pow : (n : ℕ) → n < 2 ^ n
below-pow zero = omega arith
below-pow (suc n) = omega (arith, below-pow n)

pub ones_with : (x i : ℕ) → bit x i ≡ false → ones (with_bit x i) ≡ suc (ones x)
ones_with x i e =
    let n = suc (x + i) in
    let h : x < 2 ^ n = omega (arith, below-pow n) in
    ones-count n (with_bit x i) (with-lt n x i (omega arith) h) ∙ count_same n _ _ (λ k l. bit_with x i k)
    ∙ count_insert n (bit x) i (omega arith) e ∙ ap suc (sym (ones-count n x h))

pub ones_without : (x i : ℕ) → bit x i ≡ true → suc (ones (without_bit x i)) ≡ ones x
ones_without x i e = sym (ones_with (without_bit x i) i (bit_without_same x i)) ∙ ap ones (with_without x i e)
