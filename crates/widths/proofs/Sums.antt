-- Sums of widths, one job after another.
use mathlib.Core.Path.{◌≡◌, refl, sym, ap, ◌∙◌}
use mathlib.Core.Logic.{◌⊎◌, inl, inr, ⊎_elim, ◌≢◌}
use mathlib.Core.Bool.{Bool, true, false, not, ◌&&◌, ◌||◌, and-true}
use mathlib.Core.List.{List}
use Prim.Native.Nat.{ℕ, ◌+◌, ◌*◌, ◌/◌, ◌%◌, ◌^◌, ◌<◌}
use native.Mathlib.Omega.{arith}
use native.Mathlib.Nat.{add_comm, div-div-eq-div-mul}
use lib.Dec.{eqb}
use lib.Bits.{and_mask}
use lib.Pow.{pow-add, shl-shr}
use borrow.Author.Tests.{eqb-true, eqb-false}
use Rattle.counting.specs.Counting.{only, sum}
use Rattle.counting.proofs.Tests.{true-or-false, clash, and_left}
use Rattle.counting.proofs.Sums.{sum_same, sum-zero, sum_insert}
use Rattle.bits.specs.Bits.{bit, without_bit, set_of}
use Rattle.bits.proofs.Digits.{bit-none}
use Rattle.bits.proofs.Sets.{and_below, bit-set_of}
use Rattle.bits.proofs.Walks.{Walk, walk_first, walk_next, walk_none, walk_gone}
use Rattle.tables.specs.declared.Jobs.{Jobs}
use Rattle.tables.specs.Tables.{need_at, count_of}
use Rattle.widths.specs.Widths.{limit, width_of, WidthsOf}

-- ---- a number shifted left

-- its lowest n digits
bit-mod : (n x i : ℕ) → i < n → bit (x % 2 ^ n) i ≡ bit x i
bit-mod n x i l = ap (λ (y : ℕ). bit y i) (sym (and_mask x n) ∙ and_below n x) ∙ bit-set_of n (bit x) i l

bit_shift : (w x s : ℕ) → bit (x * 2 ^ w) (s + w) ≡ bit x s
unfolding bit
bit_shift w x s =
    ap (λ (y : ℕ). eqb (y % 2) 1)
    (ap (λ (y : ℕ). x * 2 ^ w / y) (ap (λ (i : ℕ). 2 ^ i) (add_comm s w) ∙ pow-add 2 w s) ∙ sym (div-div-eq-div-mul (x * 2 ^ w) (2 ^ w) (2 ^ s))
    ∙ ap (λ (y : ℕ). y / 2 ^ s) (shl-shr x w))

pub bit-shl : (n w x s : ℕ) → s + w < n → bit (x * 2 ^ w % 2 ^ n) (s + w) ≡ bit x s
bit-shl n w x s l = bit-mod n (x * 2 ^ w) (s + w) l ∙ bit_shift w x s

-- ---- a set without one of its members

module _ (X : ℕ → Bool) (j : ℕ) where
  abbrev pub others : ℕ → Bool
  others k = X k && not (eqb k j)

  others-none : others j ≡ false
  others-none = go (eqb j j) refl
    where
      go : (b : Bool) → eqb j j ≡ b → others j ≡ false
      go true e = rw e (and-false (X j))
        where
          and-false : (a : Bool) → (a && false) ≡ false
          and-false true = refl
          and-false false = refl
      go false e = absurd (eqb-false j j e refl)

  pub split : (n : ℕ) (g : ℕ → ℕ) → j < n → X j ≡ true → sum n (λ k. only (X k) (g k)) ≡ sum n (λ k. only (others k) (g k)) + g j
  split n g l has =
      sum_same n (λ k. only (X k) (g k)) (λ k. only (eqb k j || others k) (g k)) (λ k m. ap (λ b. only b (g k)) (one k (eqb k j) refl))
      ∙ sum_insert n others g j l others-none
    where
      one : (k : ℕ) (b : Bool) → eqb k j ≡ b → X k ≡ (eqb k j || (X k && not (eqb k j)))
      one k true e = rw e (ap X (eqb-true k j e) ∙ has)
      one k false e = rw e (sym (and-true (X k)))

  pub other : (k : ℕ) → others k ≡ true → (X k ≡ true) × (k ≢ j)
  other k b = (and_left (X k) _ b, λ e. clash (others k) b (ap others e ∙ others-none))

-- ---- the walk over the jobs

-- the widths of the jobs that are no longer to come are among the sums
pub record Summed (t : Jobs) (set sums todo : ℕ) : Type 0 where
  pub walk : Walk set (count_of t) todo
  pub among : (X : ℕ → Bool)
      → ((k : ℕ) → k < count_of t → X k ≡ true → (bit set k ≡ true) × (bit todo k ≡ false)) → width_of t X < limit
      → bit sums (width_of t X) ≡ true

first : bit 1 0 ≡ true
unfolding bit
first = refl

pub summed-none : (t : Jobs) (set : ℕ) → Summed t set 1 (set_of (count_of t) (bit set))
summed-none t set = record {
  walk = walk_first (count_of t) set;
  among = λ X h l. rw (none X h) first;
}
  where
    none : (X : ℕ → Bool)
        → ((k : ℕ) → k < count_of t → X k ≡ true → (bit set k ≡ true) × (bit (set_of (count_of t) (bit set)) k ≡ false)) → width_of t X ≡ 0
    none X h = sum_same (count_of t) _ (λ k. 0) (λ k m. one k m (true-or-false (X k))) ∙ sum-zero (count_of t)
      where
        one : (k : ℕ) → k < count_of t → (X k ≡ true) ⊎ (X k ≡ false) → only (X k) (need_at t k) ≡ 0
        one k m (inl e) = clash (bit set k) (h k m e).0 (walk_none (count_of t) set k m (h k m e).1)
        one k m (inr e) = rw e refl

pub summed_more : {t : Jobs} {set sums todo : ℕ} → Summed t set sums todo → (j r : ℕ) → bit todo j ≡ true
    → ((s : ℕ) → bit sums s ≡ true → s < limit → (bit r s ≡ true) × (s + need_at t j < limit → bit r (s + need_at t j) ≡ true))
    → Summed t set r (without_bit todo j)
summed_more {t} {set} {sums} {todo} h j r b with-one = record {
  walk = walk_next j h.walk;
  among = λ X left l. go X left l (true-or-false (X j));
}
  where
    -- a job that is no longer to come, if it is not j
    gone : (k : ℕ) → k ≢ j → bit (without_bit todo j) k ≡ false → bit todo k ≡ false
    gone k d e = ⊎_elim (λ s. absurd (d s)) (λ s. s) (walk_gone todo j k e)

    go : (X : ℕ → Bool) → ((k : ℕ) → k < count_of t → X k ≡ true → (bit set k ≡ true) × (bit (without_bit todo j) k ≡ false))
        → width_of t X < limit → (X j ≡ true) ⊎ (X j ≡ false) → bit r (width_of t X) ≡ true
    go X left l (inl e) =
        let parts = split X j (count_of t) (need_at t) (h.walk.below j b) e in
        let rest = h.among (others X j) (λ k m c. (
          (left k m (other X j k c).0).0,
          gone k (other X j k c).1 (left k m (other X j k c).0).1,
        )) (omega (arith, parts)) in
        rw parts ((with-one (width_of t (others X j)) rest (omega (arith, parts))).1 (omega (arith, parts)))
    go X left l (inr e) =
        (with-one (width_of t X)
        (h.among X (λ k m c. ((left k m c).0, gone k (λ s. clash (X k) c (ap X s ∙ e)) (left k m c).1)) l) l).0

pub summed_all : {t : Jobs} {set sums todo : ℕ} → Summed t set sums todo → todo ≡ 0 → WidthsOf t set sums
summed_all {todo = todo} h e = record {
  each = λ X inside l. h.among X (λ k m c. (inside k m c, ap (λ (x : ℕ). bit x k) e ∙ bit-none k)) l;
}
