-- Sums over the numbers of an interval.
use mathlib.Core.Path.{◌≡◌, refl, ap, ◌∙◌}
use mathlib.Core.Logic.{◌⊎◌, inl, inr}
use mathlib.Core.Bool.{Bool, ◌&&◌}
use Prim.Native.Nat.{ℕ, zero, suc, ◌+◌, ◌-◌, ◌*◌, ◌≤◌, ◌<◌, min}
use native.Mathlib.Omega.{arith}
use native.Mathlib.Nat.{mul_comm}
use lib.Dec.{leb, ltb}
use borrow.Author.Tests.{lt-ltb, le-leb, lt-leb, le-ltb}
use Rattle.counting.specs.Counting.{only, sum}
use Rattle.counting.proofs.Tests.{less-or-not}
use Rattle.counting.proofs.Sums.{sum_same, sum-add, sum-zero}

-- the numbers from s on and below e
abbrev pub inside : ℕ → ℕ → ℕ → Bool
inside s e t = leb s t && ltb t e

pub sum_inside : (n s e y : ℕ) → sum n (λ t. only (inside s e t) y) ≡ (min n e - s) * y
unfolding sum
sum_inside zero s e y = let z : min 0 e - s ≡ 0 = omega arith in rw z (omega arith)
sum_inside (suc n) s e y = go (less-or-not n s) (less-or-not n e) (sum_inside n s e y)
  where
    go : (n < s) ⊎ (s ≤ n) → (n < e) ⊎ (e ≤ n) → sum n (λ t. only (inside s e t) y) ≡ (min n e - s) * y
        → sum n (λ t. only (inside s e t) y) + only (inside s e n) y ≡ (min (suc n) e - s) * y
    go (inl a) b h =
        let z : min n e - s ≡ 0 = omega arith in
        let z' : min (suc n) e - s ≡ 0 = omega arith in
        rw (lt-leb s n a, h, z, z') (omega arith)
    go (inr a) (inl b) h =
        let z : min n e ≡ n = omega arith in
        let z' : min (suc n) e - s ≡ suc (n - s) = omega arith in
        rw (le-leb s n a, lt-ltb n e b, h, z, z') (omega arith)
    go (inr a) (inr b) h =
        let z : min n e ≡ min (suc n) e = omega arith in
        rw (le-leb s n a, le-ltb n e b, h, z) (omega arith)

-- a sum over the numbers from a on, of which those below b have the same value
pub sum_from : (T a b c : ℕ) (g : ℕ → ℕ) → a ≤ b → b ≤ T → ((t : ℕ) → a ≤ t → t < b → g t ≡ c)
    → sum T (λ t. only (leb a t) (g t)) ≡ c * (b - a) + sum T (λ t. only (leb b t) (g t))
sum_from T a b c g l m h =
    let all = sum_same T (λ t. only (leb a t) (g t)) (λ t. only (inside a b t) c + only (leb b t) (g t))
    (λ t x. one t (less-or-not t a) (less-or-not t b))
    ∙ sum-add T (λ t. only (inside a b t) c) (λ t. only (leb b t) (g t)) in
    let e : min T b - a ≡ b - a = omega arith in
    let low : sum T (λ t. only (inside a b t) c) ≡ c * (b - a) =
    sum_inside T a b c ∙ ap (λ (n : ℕ). n * c) e ∙ mul_comm (b - a) c in
    omega arith
  where
    one : (t : ℕ) → (t < a) ⊎ (a ≤ t) → (t < b) ⊎ (b ≤ t) → only (leb a t) (g t) ≡ only (inside a b t) c + only (leb b t) (g t)
    one t (inl x) z = rw (lt-leb a t x, lt-leb b t (omega arith)) refl
    one t (inr x) (inl z) = rw (le-leb a t x, lt-leb b t z, lt-ltb t b z) (omega (arith, h t x z))
    one t (inr x) (inr z) = rw (le-leb a t x, le-leb b t z, le-ltb t b z) (omega arith)

-- over no numbers
pub sum_past : (T : ℕ) (g : ℕ → ℕ) → sum T (λ t. only (leb T t) (g t)) ≡ 0
sum_past T g = sum_same T _ (λ t. 0) (λ t l. ap (λ b. only b (g t)) (lt-leb T t l)) ∙ sum-zero T
