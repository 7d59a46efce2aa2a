-- Sets as numbers below 2 ^ n, and sets as tests.
use mathlib.Core.Path.{◌≡◌, sym, ap, ◌∙◌}
use mathlib.Core.Bool.{Bool}
use Prim.Native.Nat.{ℕ, zero, suc, ◌+◌, ◌^◌, ◌<◌}
use native.Mathlib.Nat.{add-zero}
use native.Mathlib.Omega.{arith}
use lib.Pow.{pow-add}
use Rattle.counting.specs.Counting.{only, sum, count}
use Rattle.counting.proofs.Sums.{sum_same}
use Rattle.bits.specs.Bits.{bit}
use Rattle.bits.proofs.Digits.{bit_above, bit-none}
use Rattle.bits.proofs.Members.{bit_with, with_clear}
use Rattle.counting.proofs.Subsets.{adding, subsets}

sum-apart : (a b : ℕ) (f : ℕ → ℕ) → sum (a + b) f ≡ sum a f + sum b (λ i. f (a + i))
unfolding sum
sum-apart a zero f = let e = ap (λ (k : ℕ). sum k f) (add-zero a) in omega arith
sum-apart a (suc b) f =
    let r = sum-apart a b f in
    let k : a + suc b ≡ suc (a + b) = omega arith in
    let e = ap (λ (k : ℕ). sum k f) k in
    omega arith

-- the number with 2 ^ n more has n more
more : (n y : ℕ) → y < 2 ^ n → bit (2 ^ n + y) ≡ adding (bit y) n
more n y l = λ k i. at i k
  where
    at : (i : ℕ) → bit (2 ^ n + y) i ≡ adding (bit y) n i
    at i =
        let e : 2 ^ n + y ≡ y + 2 ^ n = omega arith in
        ap (λ (x : ℕ). bit x i) (e ∙ sym (with_clear y n (bit_above n y n l (omega arith)))) ∙ bit_with y n i

-- the numbers below 2 ^ n that pass are the sets of numbers below n that pass
pub count_subsets : (n : ℕ) (p : (ℕ → Bool) → Bool) → count (2 ^ n) (λ x. p (bit x)) ≡ subsets n (λ d. only (p d) 1)
unfolding sum subsets
count_subsets zero p = let e = ap (λ (d : ℕ → Bool). only (p d) 1) (λ k i. bit-none i k) in omega (arith, e)
count_subsets (suc n) p =
    let two : 2 ^ suc n ≡ 2 ^ n + 2 ^ n = omega (arith, pow-add 2 n 1) in
    let a = ap (λ (k : ℕ). count k (λ x. p (bit x))) two in
    let b = sum-apart (2 ^ n) (2 ^ n) (λ x. only (p (bit x)) 1) in
    let c = sum_same (2 ^ n) (λ y. only (p (bit (2 ^ n + y))) 1) (λ y. only (p (adding (bit y) n)) 1)
    (λ y l. ap (λ (d : ℕ → Bool). only (p d) 1) (more n y l)) in
    let d = count_subsets n p in
    let e = count_subsets n (λ d. p (adding d n)) in
    omega arith
