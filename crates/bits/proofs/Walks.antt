-- A walk over the members of a set: the lowest is taken out until none is left.
use mathlib.Core.Path.{◌≡◌, refl, sym, ap, ◌∙◌}
use mathlib.Core.Logic.{◌⊎◌, inl, inr}
use mathlib.Core.Bool.{Bool, true, false, ◌&&◌, and-true}
use Prim.Native.Nat.{ℕ, zero, suc, ◌+◌, ◌-◌, ◌*◌, ◌/◌, ◌%◌, ◌^◌, ◌≤◌, ◌<◌, min}
use native.Mathlib.Omega.{arith}
use native.Mathlib.Nat.{pos_of_ne-zero, not-suc-le-zero}
use lib.Dec.{eqb}
use lib.Bits.{bit_and, and_le_l, and_step, and_self}
use lib.Count.{ones, count_trailing_zeros}
use lib.Pow.{pow_pos}
use borrow.Author.Tests.{eqb-true, eqb-false}
use Rattle.counting.proofs.Tests.{clash, and_left, and_right, less-or-not}
use Rattle.bits.specs.Bits.{bit, without_bit, set_of}
use Rattle.bits.proofs.Digits.{bit_first, bit-suc, bit-and}
use Rattle.bits.proofs.Members.{bit_without, without_set, bit_le}
use Rattle.bits.proofs.Sets.{bit-set_of, bit-set_of_above}
use Rattle.bits.proofs.Ones.{ones_without}

-- ---- the lowest member

-- k is a member of x, and none is below it
abbrev pub Lowest : ℕ → ℕ → Type 0
Lowest x k = (bit x k ≡ true) × ((i : ℕ) → i < k → bit x i ≡ false)

pub lowest_member : (k x : ℕ) → 0 < x → x < 2 ^ k → (count_trailing_zeros k x < k) × Lowest x (count_trailing_zeros k x)
unfolding count_trailing_zeros
lowest_member zero x p l = absurd (omega arith)
lowest_member (suc k) x p l = go (x % 2) refl (lowest_member k (x / 2))
  where
    go : (d : ℕ) → x % 2 ≡ d
        → (0 < x / 2 → x / 2 < 2 ^ k → (count_trailing_zeros k (x / 2) < k) × Lowest (x / 2) (count_trailing_zeros k (x / 2)))
        → (count_trailing_zeros (suc k) x < suc k) × Lowest x (count_trailing_zeros (suc k) x)
    go zero e h = rw e (omega (arith, r.0), (bit-suc x (count_trailing_zeros k (x / 2)) ∙ r.1.0, below))
      where
        r : (count_trailing_zeros k (x / 2) < k) × Lowest (x / 2) (count_trailing_zeros k (x / 2))
        r = h (omega arith) (omega arith)

        below : (i : ℕ) → i < suc (count_trailing_zeros k (x / 2)) → bit x i ≡ false
        below zero m = bit_first x ∙ ap (λ (y : ℕ). eqb y 1) e
        below (suc i) m = bit-suc x i ∙ r.1.1 i (omega arith)
    go (suc d) e h = rw e (
      omega arith,
      (bit_first x ∙ ap (λ (y : ℕ). eqb y 1) (let f : x % 2 ≡ 1 = omega arith in f), λ i m. absurd (not-suc-le-zero m)),
    )

-- the number before an odd one, and before an even one, by its half and its last digit
half_of_odd : (x : ℕ) → x % 2 ≡ 1 → (x - 1) / 2 ≡ x / 2
half_of_odd x odd = omega arith

digit_of_odd : (x : ℕ) → x % 2 ≡ 1 → (x - 1) % 2 ≡ 0
digit_of_odd x odd = omega arith

half_of_even : (x : ℕ) → x % 2 ≡ 0 → 1 ≤ x / 2 → (x - 1) / 2 ≡ x / 2 - 1
half_of_even x even large = omega arith

digit_of_even : (x : ℕ) → x % 2 ≡ 0 → 1 ≤ x / 2 → (x - 1) % 2 ≡ 1
digit_of_even x even large = omega arith

-- x and the number before it have all members in common but the lowest of x
pub without-lowest : (k x : ℕ) → Lowest x k → bit_and x (x - 1) ≡ without_bit x k
without-lowest zero x (b, low) =
    let odd : x % 2 ≡ 1 = eqb-true (x % 2) 1 (sym (bit_first x) ∙ b) in
    last_out x _ (rw (half_of_odd x odd, digit_of_odd x odd, odd, and_self) at (and_step x (x - 1))) odd (without_set x 0 b)
  where
    last_out : (y c : ℕ) {w : ℕ} → c ≡ y / 2 * 2 + min 1 0 → y % 2 ≡ 1 → w ≡ y - 2 ^ 0 → c ≡ w
    last_out y c {w} step odd less = omega arith
without-lowest (suc k) x (b, low) =
    let not_odd : x % 2 ≡ 1 → ⊥ = eqb-false (x % 2) 1 (sym (bit_first x) ∙ low 0 (omega arith)) in
    let even : x % 2 ≡ 0 = omega (arith, not_odd) in
    let high : bit (x / 2) k ≡ true = sym (bit-suc x k) ∙ b in
    let large : 1 ≤ x / 2 = omega (arith, bit_le (x / 2) k high, pow_pos k) in
    let step : bit_and x (x - 1) ≡ bit_and (x / 2) (x / 2 - 1) * 2 + min 0 1 =
    rw (half_of_even x even large, digit_of_even x even large, even) at (and_step x (x - 1)) in
    let less = without-lowest k (x / 2) (high, λ i l. sym (bit-suc x i) ∙ low (suc i) (omega arith)) in
    omega (arith, without_set x (suc k) b, without_set (x / 2) k high)

-- two sets that are not disjoint have a common member
pub common_member : (n a b : ℕ) → a < 2 ^ n → ¬ (bit_and a b ≡ 0) → (i : ℕ) × (bit a i ≡ true) × (bit b i ≡ true)
common_member n a b l h =
    let i = count_trailing_zeros n (bit_and a b) in
    let both : bit a i && bit b i ≡ true =
    sym (bit-and a b i) ∙ (lowest_member n (bit_and a b) (pos_of_ne-zero h) (omega (arith, and_le_l a b))).1.0 in
    (i, and_left (bit a i) (bit b i) both, and_right (bit a i) (bit b i) both)

-- ---- the walk

-- the members that are still to come, of those below n
pub record Walk (set n todo : ℕ) : Type 0 where
  pub below : (i : ℕ) → bit todo i ≡ true → i < n
  pub inside : (i : ℕ) → bit todo i ≡ true → bit set i ≡ true

pub walk_first : (n set : ℕ) → Walk set n (set_of n (bit set))
walk_first n set = record { below = λ i b. below i b (less-or-not i n); inside = λ i b. inside i b (less-or-not i n) }
  where
    below : (i : ℕ) → bit (set_of n (bit set)) i ≡ true → (i < n) ⊎ (n ≤ i) → i < n
    below i b (inl l) = l
    below i b (inr l) = clash (bit (set_of n (bit set)) i) b (bit-set_of_above n (bit set) i l)

    inside : (i : ℕ) → bit (set_of n (bit set)) i ≡ true → (i < n) ⊎ (n ≤ i) → bit set i ≡ true
    inside i b (inl l) = sym (bit-set_of n (bit set) i l) ∙ b
    inside i b (inr l) = clash (bit (set_of n (bit set)) i) b (bit-set_of_above n (bit set) i l)

-- a member below n that does not come at first is none
pub walk_none : (n set i : ℕ) → i < n → bit (set_of n (bit set)) i ≡ false → bit set i ≡ false
walk_none n set i l b = sym (bit-set_of n (bit set) i l) ∙ b

pub walk_next : {set n todo : ℕ} (j : ℕ) → Walk set n todo → Walk set n (without_bit todo j)
walk_next {set} {n} {todo} j h = record { below = λ i b. h.below i (still i b); inside = λ i b. h.inside i (still i b) }
  where
    still : (i : ℕ) → bit (without_bit todo j) i ≡ true → bit todo i ≡ true
    still i b = and_left (bit todo i) _ (sym (bit_without todo j i) ∙ b)

-- what no longer comes: the member taken out, or one that had come before
pub walk_gone : (todo j i : ℕ) → bit (without_bit todo j) i ≡ false → (i ≡ j) ⊎ (bit todo i ≡ false)
walk_gone todo j i b = go (eqb i j) refl
  where
    go : (e : Bool) → eqb i j ≡ e → (i ≡ j) ⊎ (bit todo i ≡ false)
    go true e = inl (eqb-true i j e)
    go false e = inr (sym (and-true (bit todo i)) ∙ rw e at (sym (bit_without todo j i) ∙ b))

pub walk_less : (todo j : ℕ) → bit todo j ≡ true → ones (without_bit todo j) < ones todo
walk_less todo j b = omega (arith, ones_without todo j b)
