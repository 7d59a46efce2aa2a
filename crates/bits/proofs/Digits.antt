-- The single bits of 0, of a power of 2, of a union and of an intersection; what a shift of 1 is.
use mathlib.Core.Path.{◌≡◌, refl, sym, ap, ap₂, ◌∙◌}
use mathlib.Core.Bool.{Bool, true, false, ◌&&◌, ◌||◌}
use Prim.Native.Nat.{ℕ, zero, suc, ◌+◌, ◌-◌, ◌*◌, ◌/◌, ◌%◌, ◌^◌, ◌≤◌, ◌<◌}
use native.Mathlib.Omega.{arith}
use native.Mathlib.Nat.{le_trans, div-one, zero-div, div-eq_of_lt, one-mul}
use lib.Dec.{lit<, eqb, eqb-zero-suc, eqb-suc-zero, eqb-suc-suc}
use lib.Pow.{shr-shr, pow_mono, pow-add, shl_exact}
use lib.Bits.{bit_or, bit_and, or_shr, or_mod, and_shr, and_mod, and_high}
use borrow.Author.Tests.{eqb-true, eqb-false}
use Rattle.counting.specs.Counting.{only}
use Rattle.bits.specs.Bits.{bit}
use Rattle.counting.proofs.Tests.{only-mul}

-- ---- a bit as a number

-- as a digit, 0 or 1
pub bit-digit : (x i : ℕ) → x / 2 ^ i % 2 ≡ only (bit x i) 1
unfolding bit
bit-digit x i = go (eqb (x / 2 ^ i % 2) 1) refl
  where
    go : (b : Bool) → eqb (x / 2 ^ i % 2) 1 ≡ b → x / 2 ^ i % 2 ≡ only b 1
    go true e = eqb-true (x / 2 ^ i % 2) 1 e
    go false e = let even = eqb-false (x / 2 ^ i % 2) 1 e in omega arith

-- as the digit's value, 0 or a power of 2
pub bit_value : (x i : ℕ) → x / 2 ^ i % 2 * 2 ^ i ≡ only (bit x i) (2 ^ i)
bit_value x i =
    ap (λ (d : ℕ). d * 2 ^ i) (bit-digit x i) ∙ only-mul (bit x i) 1 (2 ^ i) ∙ ap (only (bit x i)) (omega arith)

-- ---- the lowest bit, and the others

pub bit_first : (x : ℕ) → bit x 0 ≡ eqb (x % 2) 1
unfolding bit
bit_first x = ap (λ (y : ℕ). eqb (y % 2) 1) (div-one x)

pub bit-suc : (x i : ℕ) → bit x (suc i) ≡ bit (x / 2) i
unfolding bit
bit-suc x i =
    let e : suc i ≡ 1 + i = omega arith in
    ap (λ (y : ℕ). eqb (y % 2) 1) (ap (λ (k : ℕ). x / 2 ^ k) e ∙ sym (shr-shr x 1 i))

-- ---- no member, and one

pub bit-none : (i : ℕ) → bit 0 i ≡ false
unfolding bit
bit-none i = ap (λ (y : ℕ). eqb (y % 2) 1) (zero-div (2 ^ i))

-- a set that is only there where a test holds
pub bit-only : (b : Bool) (x i : ℕ) → bit (only b x) i ≡ (b && bit x i)
bit-only true x i = refl
bit-only false x i = bit-none i

-- a number of n digits has no member from n on
pub bit_above : (n x i : ℕ) → x < 2 ^ n → n ≤ i → bit x i ≡ false
unfolding bit
bit_above n x i l m = ap (λ (y : ℕ). eqb (y % 2) 1) (div-eq_of_lt (le_trans l (pow_mono m)))

pub bit-pow : (j i : ℕ) → bit (2 ^ j) i ≡ eqb i j
bit-pow zero zero = bit_first 1
bit-pow zero (suc i) = bit-suc 1 i ∙ bit-none i ∙ sym (eqb-suc-zero i)
bit-pow (suc j) zero =
    let even : 2 ^ suc j % 2 ≡ 0 = omega arith in
    bit_first (2 ^ suc j) ∙ ap (λ (y : ℕ). eqb y 1) even ∙ sym (eqb-zero-suc j)
bit-pow (suc j) (suc i) =
    let half : 2 ^ suc j / 2 ≡ 2 ^ j = omega arith in
    bit-suc (2 ^ suc j) i ∙ ap (λ (y : ℕ). bit y i) half ∙ bit-pow j i ∙ sym (eqb-suc-suc i j)

-- ---- union and intersection

-- the bits under an operation that goes digit by digit: `upper` and `lower` say that it does, `digit` what it does to one digit
digit_by_digit : (op : ℕ → ℕ → ℕ) (test : Bool → Bool → Bool)
    → ((a b k : ℕ) → op a b / 2 ^ k ≡ op (a / 2 ^ k) (b / 2 ^ k))
    → ((a b k : ℕ) → op a b % 2 ^ k ≡ op (a % 2 ^ k) (b % 2 ^ k))
    → ((p q : Bool) → eqb (op (only p 1) (only q 1)) 1 ≡ test p q)
    → (a b i : ℕ) → bit (op a b) i ≡ test (bit a i) (bit b i)
unfolding bit
digit_by_digit op test upper lower digit a b i =
    ap (λ (y : ℕ). eqb (y % 2) 1) (upper a b i)
    ∙ ap (λ (y : ℕ). eqb y 1) (lower (a / 2 ^ i) (b / 2 ^ i) 1 ∙ ap₂ op (bit-digit a i) (bit-digit b i))
    ∙ digit (bit a i) (bit b i)

pub bit-or : (a b i : ℕ) → bit (bit_or a b) i ≡ (bit a i || bit b i)
bit-or = digit_by_digit bit_or ◌||◌ or_shr or_mod digit
  where
    digit : (p q : Bool) → eqb (bit_or (only p 1) (only q 1)) 1 ≡ (p || q)
    digit true true = refl
    digit true false = refl
    digit false true = refl
    digit false false = refl

pub bit-and : (a b i : ℕ) → bit (bit_and a b) i ≡ (bit a i && bit b i)
bit-and = digit_by_digit bit_and ◌&&◌ and_shr and_mod digit
  where
    digit : (p q : Bool) → eqb (bit_and (only p 1) (only q 1)) 1 ≡ (p && q)
    digit true true = refl
    digit true false = refl
    digit false true = refl
    digit false false = refl

-- ---- one bit taken out, and one bit made

-- what x has of bit i
pub and_pow : (x i : ℕ) {b : Bool} → bit x i ≡ b → bit_and x (2 ^ i) ≡ only b (2 ^ i)
and_pow x i e =
    let one : 2 ^ i ≡ 2 ^ (1 + i) - 2 ^ i = omega (arith, pow-add 2 1 i) in
    ap (λ (y : ℕ). bit_and x y) one ∙ and_high x 1 i ∙ bit_value x i ∙ ap (λ b. only b (2 ^ i)) e

-- 1 shifted left within w digits
pub one_shl : (w i : ℕ) → i < w → (1 * 2 ^ i) % 2 ^ w ≡ 2 ^ i
one_shl w i h = shl_exact 1 i w (lit< tt) (omega arith) ∙ one-mul (2 ^ i)

-- a word that is 1, moved up
pub one_up : {x r : ℕ} (w i : ℕ) → x ≡ 1 → r ≡ x * 2 ^ i % 2 ^ w → i < w → r ≡ 2 ^ i
one_up w i e f h = f ∙ ap (λ (y : ℕ). y * 2 ^ i % 2 ^ w) e ∙ one_shl w i h
