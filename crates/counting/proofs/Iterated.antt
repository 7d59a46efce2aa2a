-- A test of all numbers below n, as an iterator over them makes it.
use mathlib.Core.Path.{◌≡◌, refl, sym, ap, ap₂, ◌∙◌}
use mathlib.Core.Bool.{Bool, true, false, ◌&&◌}
use Prim.Native.Nat.{ℕ, zero, suc, ◌+◌}
use native.Mathlib.Omega.{arith}
use Rattle.std.specs.List.{list_all, range_with_len}
use Rattle.counting.specs.Counting.{every}

and-true : (a : Bool) → (a && true) ≡ a
and-true true = refl
and-true false = refl

and_assoc : (a b c : Bool) → ((a && b) && c) ≡ (a && (b && c))
and_assoc true b c = refl
and_assoc false b c = refl

every_same : (n : ℕ) (p q : ℕ → Bool) → ((i : ℕ) → p i ≡ q i) → every n p ≡ every n q
unfolding every
every_same zero p q h = refl
every_same (suc n) p q h = ap₂ ◌&&◌ (every_same n p q h) (h n)

-- the test of 0 first
every_first : (n : ℕ) (p : ℕ → Bool) → every (suc n) p ≡ (p 0 && every n (λ i. p (suc i)))
unfolding every
every_first zero p = sym (and-true (p 0))
every_first (suc n) p =
    ap (λ (b : Bool). b && p (suc n)) (every_first n p) ∙ and_assoc (p 0) (every n (λ i. p (suc i))) (p (suc n))

all_from : (a n : ℕ) (p : ℕ → Bool) → list_all p (range_with_len a n) ≡ every n (λ i. p (a + i))
unfolding every
all_from a zero p = refl
all_from a (suc n) p =
    ap₂ ◌&&◌ (ap p (let e : a ≡ a + 0 = omega arith in e))
    (all_from (a + 1) n p
    ∙ every_same n (λ i. p (a + 1 + i)) (λ i. p (a + suc i)) (λ i. ap p (let e : a + 1 + i ≡ a + suc i = omega arith in e)))
    ∙ sym (every_first n (λ i. p (a + i)))

pub all_below : (n : ℕ) (p : ℕ → Bool) → list_all p (range_with_len 0 n) ≡ every n p
all_below n p = all_from 0 n p ∙ every_same n (λ i. p (0 + i)) p (λ i. ap p (let e : 0 + i ≡ i = omega arith in e))
