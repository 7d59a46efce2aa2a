-- What the members of a set weigh, one after another.
use mathlib.Core.Path.{◌≡◌, sym, ap, ◌∙◌}
use mathlib.Core.Bool.{true, ◌||◌}
use Prim.Native.Nat.{ℕ, ◌+◌, ◌*◌, ◌≤◌, ◌<◌}
use native.Mathlib.Omega.{arith}
use native.Mathlib.Nat.{le_trans}
use lib.Dec.{eqb}
use Rattle.counting.specs.Counting.{only, sum}
use Rattle.counting.proofs.Tests.{only-le}
use Rattle.counting.proofs.Sums.{sum_same, sum-zero, sum_most, sum_insert}
use Rattle.bits.specs.Bits.{bit, without_bit, set_of}
use Rattle.bits.proofs.Digits.{bit-none}
use Rattle.bits.proofs.Members.{bit_with, bit_without_same, with_without}
use Rattle.bits.proofs.Sets.{bit-set_of}

-- a sum over a set, and over the set without one of its members
sum_without : (n x j : ℕ) (g : ℕ → ℕ) → j < n → bit x j ≡ true
    → sum n (λ k. only (bit x k) (g k)) ≡ sum n (λ k. only (bit (without_bit x j) k) (g k)) + g j
sum_without n x j g l e =
    sum_same n (λ k. only (bit x k) (g k)) (λ k. only (eqb k j || bit (without_bit x j) k) (g k)) (λ k m. ap (λ b. only b (g k)) (back k))
    ∙ sum_insert n (bit (without_bit x j)) g j l (bit_without_same x j)
  where
    back : (k : ℕ) → bit x k ≡ (eqb k j || bit (without_bit x j) k)
    back k = ap (λ (y : ℕ). bit y k) (sym (with_without x j e)) ∙ bit_with (without_bit x j) j k

-- so far: the weight of those members below n that are no longer in `todo`
pub record Weighed (set n : ℕ) (worth : ℕ → ℕ) (todo weight : ℕ) : Type 0 where
  pub all : weight + sum n (λ k. only (bit todo k) (worth k)) ≡ sum n (λ k. only (bit set k) (worth k))

pub weighed-none : (set n : ℕ) (worth : ℕ → ℕ) (weight : ℕ) → weight ≡ 0 → Weighed set n worth (set_of n (bit set)) weight
weighed-none set n worth weight l = record {
  all = omega (
    arith,
    sum_same n (λ k. only (bit (set_of n (bit set)) k) (worth k)) (λ k. only (bit set k) (worth k))
        (λ k m. ap (λ b. only b (worth k)) (bit-set_of n (bit set) k m)),
  );
}

pub weighed_all : {set n : ℕ} {worth : ℕ → ℕ} {todo weight : ℕ} → Weighed set n worth todo weight → todo ≡ 0
    → weight ≡ sum n (λ k. only (bit set k) (worth k))
weighed_all {set} {n} {worth} {todo} {weight} h e =
    let none : sum n (λ k. only (bit todo k) (worth k)) ≡ 0 =
    rw e (sum_same n (λ k. only (bit 0 k) (worth k)) (λ k. 0) (λ k m. ap (λ b. only b (worth k)) (bit-none k)) ∙ sum-zero n) in
    omega (arith, h.all)

module _ {set n : ℕ} {worth : ℕ → ℕ} {todo weight : ℕ} (h : Weighed set n worth todo weight) (j : ℕ) (l : j < n)
    (e : bit todo j ≡ true) where
  pub weighed_more : Weighed set n worth (without_bit todo j) (weight + worth j)
  weighed_more = record { all = omega (arith, h.all, sum_without n todo j worth l e) }

  pub weighed_small : (b : ℕ) → ((k : ℕ) → k < n → worth k ≤ b) → weight + worth j ≤ n * b
  weighed_small b small =
      let whole : sum n (λ k. only (bit set k) (worth k)) ≤ n * b =
      sum_most n (λ k. only (bit set k) (worth k)) b (λ k m. le_trans (only-le (bit set k) (worth k)) (small k m)) in
      omega (arith, h.all, sum_without n todo j worth l e)
