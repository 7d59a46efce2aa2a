-- The set of the numbers that pass a test; two sets with the same members; disjoint sets; the set of all.
use mathlib.Core.Path.{◌≡◌, refl, sym, ap, subst, ◌∙◌}
use mathlib.Core.Logic.{◌⊎◌, inl, inr, ⊎_elim}
use mathlib.Core.Bool.{Bool, true, false, cond, ◌&&◌, ◌||◌, and-true, and-false, or-false}
use Prim.Native.Nat.{ℕ, zero, suc, ◌+◌, ◌-◌, ◌%◌, ◌^◌, ◌≤◌, ◌<◌}
use native.Mathlib.Omega.{arith}
use native.Mathlib.Nat.{le_refl, le_trans, add-zero, lt_of_le_of_lt, pow-suc, mod-one, mod-eq_of_lt, not-suc-le-zero}
use native.Mathlib.Numerals.{add-one}
use lib.Dec.{eqb}
use lib.Pow.{pow_pos, pow-lt, pow_mono, mod-pow-add}
use lib.Bits.{bit_and, and_le_l, and_mask}
use borrow.Author.Tests.{eq-eqb, ne_eqb}
use Rattle.counting.specs.Counting.{only, sum}
use Rattle.counting.proofs.Tests.{true-or-false, less-or-not, last-or_below, and_right, only-le}
use Rattle.counting.proofs.Sums.{sum_same}
use Rattle.bits.specs.Bits.{bit, with_bit, set_of}
use Rattle.bits.proofs.Digits.{bit_value, bit-none, bit_above, bit-pow, bit-and}
use Rattle.bits.proofs.Members.{bit_with, with_clear}

-- ---- the numbers that pass

pub set_of-lt : (n : ℕ) (f : ℕ → Bool) → set_of n f < 2 ^ n
unfolding set_of sum
set_of-lt zero f = le_refl 1
set_of-lt (suc n) f = omega (arith, set_of-lt n f, only-le (f n) (2 ^ n))

pub set_of_same : (n : ℕ) (f g : ℕ → Bool) → ((i : ℕ) → i < n → f i ≡ g i) → set_of n f ≡ set_of n g
unfolding set_of
set_of_same n f g h = sum_same n _ _ (λ i l. ap (λ b. only b (2 ^ i)) (h i l))

-- the test is asked of one number more
bit-set_of-suc : (n : ℕ) (f : ℕ → Bool) (i : ℕ) → bit (set_of (suc n) f) i ≡ (f n && eqb i n || bit (set_of n f) i)
unfolding set_of sum
bit-set_of-suc n f i = go (f n)
  where
    go : (b : Bool) → bit (set_of n f + only b (2 ^ n)) i ≡ (b && eqb i n || bit (set_of n f) i)
    go true =
        ap (λ (y : ℕ). bit y i) (sym (with_clear (set_of n f) n (bit_above n (set_of n f) n (set_of-lt n f) (le_refl n))))
        ∙ bit_with (set_of n f) n i
    go false = ap (λ (y : ℕ). bit y i) (add-zero (set_of n f))

pub set_of-none : (f : ℕ → Bool) → 0 ≡ set_of 0 f
unfolding set_of sum
set_of-none f = refl

-- one number more
pub set_of_more : (n : ℕ) (f : ℕ → Bool) → cond (f n) (with_bit (set_of n f) n) (set_of n f) ≡ set_of (n + 1) f
unfolding set_of sum
set_of_more n f = go (f n) ∙ ap (λ (k : ℕ). set_of k f) (sym (add-one n))
  where
    go : (b : Bool) → cond b (with_bit (set_of n f) n) (set_of n f) ≡ set_of n f + only b (2 ^ n)
    go true = with_clear (set_of n f) n (bit_above n (set_of n f) n (set_of-lt n f) (le_refl n))
    go false = sym (add-zero (set_of n f))

pub bit-set_of_above : (n : ℕ) (f : ℕ → Bool) (i : ℕ) → n ≤ i → bit (set_of n f) i ≡ false
bit-set_of_above n f i = bit_above n (set_of n f) i (set_of-lt n f)

pub bit-set_of : (n : ℕ) (f : ℕ → Bool) (i : ℕ) → i < n → bit (set_of n f) i ≡ f i
bit-set_of zero f i l = absurd (not-suc-le-zero l)
bit-set_of (suc n) f i l = bit-set_of-suc n f i ∙ go (last-or_below n i l) (bit-set_of n f i)
  where
    go : (i ≡ n) ⊎ (i < n) → (i < n → bit (set_of n f) i ≡ f i) → (f n && eqb i n || bit (set_of n f) i) ≡ f i
    go (inl q) h = rw q (simp (eq-eqb n n refl, bit-set_of_above n f n (le_refl n), and-true, or-false))
    go (inr k) h = simp (ne_eqb i n (λ q. absurd (omega arith)), and-false) (h k)

-- the members below n are the n lowest digits
set_of-mod : (n x : ℕ) → set_of n (bit x) ≡ x % 2 ^ n
unfolding set_of sum
set_of-mod zero x = sym (mod-one x)
set_of-mod (suc n) x =
    let e : suc n ≡ 1 + n = omega arith in
    let split : x % 2 ^ suc n ≡ only (bit x n) (2 ^ n) + x % 2 ^ n =
    ap (λ (k : ℕ). x % 2 ^ k) e ∙ mod-pow-add x 1 n ∙ ap (λ (d : ℕ). d + x % 2 ^ n) (bit_value x n) in
    omega (arith, set_of-mod n x)

-- a number is the set of its members
pub set_of-bit : (n x : ℕ) → x < 2 ^ n → set_of n (bit x) ≡ x
set_of-bit n x l = set_of-mod n x ∙ mod-eq_of_lt l

-- the members below n, cut out by the number of n ones
pub and_below : (n x : ℕ) → bit_and x (2 ^ n - 1) ≡ set_of n (bit x)
and_below n x = and_mask x n ∙ sym (set_of-mod n x)

-- ---- by members

pub bits_same : (n x y : ℕ) → x < 2 ^ n → y < 2 ^ n → ((i : ℕ) → i < n → bit x i ≡ bit y i) → x ≡ y
bits_same n x y l m h = sym (set_of-bit n x l) ∙ set_of_same n (bit x) (bit y) h ∙ set_of-bit n y m

-- disjoint sets: no member of a is one of b
pub and-empty : (a b : ℕ) → bit_and a b ≡ 0 → (i : ℕ) → bit a i ≡ true → bit b i ≡ false
and-empty a b e i t = ap (λ p. p && bit b i) (sym t) ∙ sym (bit-and a b i) ∙ ap (λ (y : ℕ). bit y i) e ∙ bit-none i

pub empty-and : (n a b : ℕ) → a < 2 ^ n → ((i : ℕ) → i < n → bit a i ≡ true → bit b i ≡ false) → bit_and a b ≡ 0
empty-and n a b l h =
    bits_same n (bit_and a b) 0 (lt_of_le_of_lt (and_le_l a b) l) (pow_pos n)
    (λ i k. bit-and a b i ∙ not_both (bit a i) (bit b i) (h i k) ∙ sym (bit-none i))
  where
    not_both : (p q : Bool) → (p ≡ true → q ≡ false) → (p && q) ≡ false
    not_both true q f = f refl
    not_both false q f = refl

-- the set of all numbers below n
pub all_bits : (n i : ℕ) → i < n → bit (2 ^ n - 1) i ≡ true
all_bits n i l =
    and_right (bit (2 ^ i) i) (bit (2 ^ n - 1) i)
    (sym (bit-and (2 ^ i) (2 ^ n - 1) i) ∙ ap (λ (y : ℕ). bit y i) (and_mask (2 ^ i) n ∙ mod-eq_of_lt (pow-lt l))
    ∙ bit-pow i i ∙ eq-eqb i i refl)

-- a number without members from N on is below 2 ^ N
self_pow : (x : ℕ) → x < 2 ^ x
self_pow zero = omega arith
self_pow (suc x) = omega (arith, self_pow x, pow-suc 2 x)

pub bits_below : (N x : ℕ) → ((m : ℕ) → bit x m ≡ true → m < N) → x < 2 ^ N
bits_below N x h =
    let small : x < 2 ^ (N + x) = le_trans (self_pow x) (pow_mono {i = x} {j = N + x} (omega arith)) in
    let rest : set_of N (bit x) < 2 ^ (N + x) = le_trans (set_of-lt N (bit x)) (pow_mono {i = N} {j = N + x} (omega arith)) in
    let e : x ≡ set_of N (bit x) = bits_same (N + x) x (set_of N (bit x)) small rest (λ i l. member i (less-or-not i N)) in
    subst (λ (z : ℕ). z < 2 ^ N) (sym e) (set_of-lt N (bit x))
  where
    member : (i : ℕ) → (i < N) ⊎ (N ≤ i) → bit x i ≡ bit (set_of N (bit x)) i
    member i (inl a) = sym (bit-set_of N (bit x) i a)
    member i (inr a) = ⊎_elim (λ t. absurd (omega (arith, h i t))) (λ f. f ∙ sym (bit-set_of_above N (bit x) i a)) (true-or-false (bit x i))
