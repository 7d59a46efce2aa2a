-- Sums, counts, the largest value, tests and joined lists over the numbers below n, and two bounds.
-- Each but these is a fold from below, the shape of a loop `while i < n`: its invariant is `acc ≡ sum i f`.
use Rattle.std.specs.Prelude.{Bool, true, false, ◌&&◌, ◌||◌, List, [], ◌++◌, ℕ, zero, suc, ◌+◌, ◌≤◌, max}

-- x where the test holds, and 0 elsewhere
abbrev pub only : Bool → ℕ → ℕ
only true x = x
only false x = 0

-- f 0 + f 1 + … + f (n - 1)
unfoldable pub sum : ℕ → (ℕ → ℕ) → ℕ
sum zero f = 0
sum (suc n) f = sum n f + f n

-- the largest of f 0, …, f (n - 1), and 0 where n is 0
unfoldable pub largest : ℕ → (ℕ → ℕ) → ℕ
largest zero f = 0
largest (suc n) f = max (largest n f) (f n)

-- the test holds of every number below n
unfoldable pub every : ℕ → (ℕ → Bool) → Bool
every zero p = true
every (suc n) p = every n p && p n

-- the test holds of some number below n
unfoldable pub any : ℕ → (ℕ → Bool) → Bool
any zero p = false
any (suc n) p = any n p || p n

-- how many numbers below n pass the test
abbrev pub count : ℕ → (ℕ → Bool) → ℕ
count n p = sum n (λ i. only (p i) 1)

-- f 0 ++ f 1 ++ … ++ f (n - 1)
unfoldable pub joined {ℓ} : {A : Type ℓ} → ℕ → (ℕ → List A) → List A
joined zero f = []
joined (suc n) f = joined n f ++ f n

-- ---- bounds

-- up to n, a larger number has no smaller value
abbrev pub Rises : ℕ → (ℕ → ℕ) → Type 0
Rises n f = (a b : ℕ) → a ≤ b → b ≤ n → f a ≤ f b

-- no set of numbers below n that is at most x wide, where x is at most `top`, is worth more than K x
abbrev pub Holds : (ℕ → ℕ) → ℕ → ℕ → (ℕ → ℕ) → (ℕ → ℕ) → Type 0
Holds width n top y K = (X : ℕ → Bool) (x : ℕ) → x ≤ top → sum n (λ k. only (X k) (width k)) ≤ x → sum n (λ k. only (X k) (y k)) ≤ K x
