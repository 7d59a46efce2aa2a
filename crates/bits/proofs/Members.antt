-- A set with one member more, and one member less: its bits and its number.
use mathlib.Core.Path.{◌≡◌, refl, sym, ap, ◌∙◌}
use mathlib.Core.Bool.{Bool, true, false, not, ◌&&◌, ◌||◌, or_comm, and-true, and-false}
use Prim.Native.Nat.{ℕ, ◌+◌, ◌-◌, ◌*◌, ◌/◌, ◌%◌, ◌^◌, ◌≤◌, ◌<◌}
use native.Mathlib.Omega.{arith}
use native.Mathlib.Nat.{sub-le, div-eq-sub-div}
use lib.Dec.{eqb}
use lib.Pow.{pow_pos, pow-lt}
use lib.Bits.{bit_and, bit_or, or_lt, or_disjoint, and_le_l}
use borrow.Author.Tests.{eqb-true}
use Rattle.counting.specs.Counting.{only}
use Rattle.bits.specs.Bits.{bit, with_bit, without_bit}
use Rattle.bits.proofs.Digits.{bit-digit, bit-or, bit-pow, and_pow, one_shl}

-- ---- with a member

pub bit_with : (x j i : ℕ) → bit (with_bit x j) i ≡ (eqb i j || bit x i)
unfolding with_bit
bit_with x j i = bit-or x (2 ^ j) i ∙ ap (λ b. bit x i || b) (bit-pow j i) ∙ or_comm (bit x i) (eqb i j)

pub with-lt : (n x i : ℕ) → i < n → x < 2 ^ n → with_bit x i < 2 ^ n
unfolding with_bit
with-lt n x i h l = or_lt n x (2 ^ i) l (pow-lt h)

-- a new member adds its value
pub with_clear : (x i : ℕ) → bit x i ≡ false → with_bit x i ≡ x + 2 ^ i
unfolding with_bit
with_clear x i e = or_disjoint x (2 ^ i) (and_pow x i e)

-- the code within w digits
pub with-shl : (w x i : ℕ) → i < w → bit_or x ((1 * 2 ^ i) % 2 ^ w) ≡ with_bit x i
unfolding with_bit
with-shl w x i h = ap (λ (y : ℕ). bit_or x y) (one_shl w i h)

-- ---- without a member

pub without-le : (x i : ℕ) → without_bit x i ≤ x
unfolding without_bit
without-le x i = sub-le x (bit_and x (2 ^ i))

-- a member takes its value away
pub without_set : (x i : ℕ) → bit x i ≡ true → without_bit x i ≡ x - 2 ^ i
unfolding without_bit
without_set x i e = ap (λ (y : ℕ). x - y) (and_pow x i e)

pub without_clear : (x i : ℕ) → bit x i ≡ false → without_bit x i ≡ x
unfolding without_bit
without_clear x i e = omega (arith, and_pow x i e)

-- a member's value is within the number
pub bit_le : (x i : ℕ) → bit x i ≡ true → 2 ^ i ≤ x
bit_le x i e = omega (arith, and_le_l x (2 ^ i), and_pow x i e)

pub bit_without_same : (x j : ℕ) → bit (without_bit x j) j ≡ false
unfolding bit
bit_without_same x j = go (bit x j) refl
  where
    go : (b : Bool) → bit x j ≡ b → bit (without_bit x j) j ≡ false
    go false e = rw (without_clear x j e) e
    go true e =
        let odd : x / 2 ^ j % 2 ≡ 1 = bit-digit x j ∙ ap (λ b. only b 1) e in
        let even : (x - 2 ^ j) / 2 ^ j % 2 ≡ 0 = omega (arith, div-eq-sub-div (pow_pos j) (bit_le x j e)) in
        rw (without_set x j e) (ap (λ (d : ℕ). eqb d 1) even)

-- a member that is taken out and put back
pub with_without : (x j : ℕ) → bit x j ≡ true → with_bit (without_bit x j) j ≡ x
with_without x j e =
    with_clear (without_bit x j) j (bit_without_same x j) ∙ omega (arith, without_set x j e, bit_le x j e)

bit_without_other : (x j i : ℕ) → eqb i j ≡ false → bit (without_bit x j) i ≡ bit x i
bit_without_other x j i d = go (bit x j) refl
  where
    go : (b : Bool) → bit x j ≡ b → bit (without_bit x j) i ≡ bit x i
    go false e = ap (λ (y : ℕ). bit y i) (without_clear x j e)
    go true e =
        ap (λ b. b || bit (without_bit x j) i) (sym d) ∙ sym (bit_with (without_bit x j) j i)
        ∙ ap (λ (y : ℕ). bit y i) (with_without x j e)

pub bit_without : (x j i : ℕ) → bit (without_bit x j) i ≡ (bit x i && not (eqb i j))
bit_without x j i = go (eqb i j) refl
  where
    go : (b : Bool) → eqb i j ≡ b → bit (without_bit x j) i ≡ (bit x i && not b)
    go true e = rw (eqb-true i j e) (bit_without_same x j ∙ sym (and-false (bit x j)))
    go false e = bit_without_other x j i e ∙ sym (and-true (bit x i))

-- the code within w digits
pub without-shl : (w x i : ℕ) → i < w → x - bit_and x ((1 * 2 ^ i) % 2 ^ w) ≡ without_bit x i
unfolding without_bit
without-shl w x i h = ap (λ (y : ℕ). x - bit_and x y) (one_shl w i h)
