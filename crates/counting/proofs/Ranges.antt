-- Laws of the largest value, of tests of every and any number below n, and searches among them.
use mathlib.Core.Path.{◌≡◌, refl, ap, ap₂, ◌∙◌}
use mathlib.Core.Logic.{◌⊎◌, inl, inr, ⊎_elim}
use mathlib.Core.Bool.{Bool, true, false, ◌||◌}
use Prim.Native.Nat.{ℕ, zero, suc, ◌+◌, ◌≤◌, ◌<◌, max, zero-le}
use native.Mathlib.Omega.{arith}
use native.Mathlib.Nat.{add-zero, le_refl, not-suc-le-zero}
use Rattle.counting.specs.Counting.{sum, largest, every, any}
use Rattle.counting.proofs.Tests.{true-or-false, clash, and_left, and_right, or_left, or_right, or-false, or_assoc}
use Rattle.counting.proofs.Tests.{less-or-not, below_suc, last-or_below}

-- ---- the largest

pub le-largest : (n : ℕ) (f : ℕ → ℕ) (i : ℕ) → i < n → f i ≤ largest n f
unfolding largest
le-largest zero f i l = absurd (not-suc-le-zero l)
le-largest (suc n) f i l = go (last-or_below n i l) (le-largest n f i)
  where
    go : (i ≡ n) ⊎ (i < n) → (i < n → f i ≤ largest n f) → f i ≤ max (largest n f) (f n)
    go (inl e) h = rw e (omega arith)
    go (inr k) h = omega (arith, h k)

pub largest-le : (n : ℕ) (f : ℕ → ℕ) (b : ℕ) → ((i : ℕ) → i < n → f i ≤ b) → largest n f ≤ b
unfolding largest
largest-le zero f b h = zero-le
largest-le (suc n) f b h = omega (arith, largest-le n f b (below_suc n h), h n (le_refl _))

pub largest_same : (n : ℕ) (f g : ℕ → ℕ) → ((i : ℕ) → i < n → f i ≡ g i) → largest n f ≡ largest n g
unfolding largest
largest_same zero f g h = refl
largest_same (suc n) f g h = ap₂ max (largest_same n f g (below_suc n h)) (h n (le_refl _))

-- it is one of the values, or 0 where there is none above
pub largest-some : (n : ℕ) (f : ℕ → ℕ) → (largest n f ≡ 0) ⊎ ((i : ℕ) × (i < n) × (largest n f ≡ f i))
unfolding largest
largest-some zero f = inl refl
largest-some (suc n) f = go (less-or-not (largest n f) (f n)) (largest-some n f)
  where
    go : (largest n f < f n) ⊎ (f n ≤ largest n f) → (largest n f ≡ 0) ⊎ ((i : ℕ) × (i < n) × (largest n f ≡ f i))
        → (max (largest n f) (f n) ≡ 0) ⊎ ((i : ℕ) × (i < suc n) × (max (largest n f) (f n) ≡ f i))
    go (inl l) h = inr (n, le_refl _, omega arith)
    go (inr l) (inl e) = inl (omega arith)
    go (inr l) (inr (i, k, e)) = inr (i, omega arith, omega arith)

-- ---- every and any

pub every-at : (n : ℕ) (p : ℕ → Bool) → every n p ≡ true → (i : ℕ) → i < n → p i ≡ true
unfolding every
every-at zero p e i l = absurd (not-suc-le-zero l)
every-at (suc n) p e i l = go (last-or_below n i l) (every-at n p (and_left _ _ e) i)
  where
    go : (i ≡ n) ⊎ (i < n) → (i < n → p i ≡ true) → p i ≡ true
    go (inl q) h = rw q (and_right (every n p) (p n) e)
    go (inr k) h = h k

pub every_intro : (n : ℕ) (p : ℕ → Bool) → ((i : ℕ) → i < n → p i ≡ true) → every n p ≡ true
unfolding every
every_intro zero p h = refl
every_intro (suc n) p h = rw (every_intro n p (below_suc n h)) (h n (le_refl _))

pub any_none : (n : ℕ) (p : ℕ → Bool) → any n p ≡ false → (i : ℕ) → i < n → p i ≡ false
unfolding any
any_none zero p e i l = absurd (not-suc-le-zero l)
any_none (suc n) p e i l = go (last-or_below n i l) (any_none n p (or_left _ _ e) i)
  where
    go : (i ≡ n) ⊎ (i < n) → (i < n → p i ≡ false) → p i ≡ false
    go (inl q) h = rw q (or_right (any n p) (p n) e)
    go (inr k) h = h k

pub none_any : (n : ℕ) (p : ℕ → Bool) → ((i : ℕ) → i < n → p i ≡ false) → any n p ≡ false
unfolding any
none_any zero p h = refl
none_any (suc n) p h = rw (none_any n p (below_suc n h)) (h n (le_refl _))

pub any_same : (n : ℕ) (p q : ℕ → Bool) → ((i : ℕ) → i < n → p i ≡ q i) → any n p ≡ any n q
unfolding any
any_same zero p q h = refl
any_same (suc n) p q h = ap₂ ◌||◌ (any_same n p q (below_suc n h)) (h n (le_refl _))

-- one number that passes is enough
pub any_at : (n : ℕ) (p : ℕ → Bool) (i : ℕ) → i < n → p i ≡ true → any n p ≡ true
any_at n p i l e = ⊎_elim (λ t. t) (λ h. clash (p i) e (any_none n p h i l)) (true-or-false (any n p))

-- the first a numbers, and the b behind them
any-apart : (a b : ℕ) (p : ℕ → Bool) → any (a + b) p ≡ (any a p || any b (λ k. p (a + k)))
unfolding any
any-apart a zero p = ap (λ (k : ℕ). any k p) (add-zero a) ∙ or-false (any a p)
any-apart a (suc b) p =
    let e : a + suc b ≡ suc (a + b) = omega arith in
    ap (λ (k : ℕ). any k p) e ∙ ap (λ (x : Bool). x || p (a + b)) (any-apart a b p)
    ∙ or_assoc (any a p) (any b (λ k. p (a + k))) (p (a + b))

-- a test of all numbers up to a sum, part by part
pub any_by_parts : (n : ℕ) (size : ℕ → ℕ) (p : ℕ → Bool) → any (sum n size) p ≡ any n (λ i. any (size i) (λ k. p (sum i size + k)))
unfolding any sum
any_by_parts zero size p = refl
any_by_parts (suc n) size p =
    any-apart (sum n size) (size n) p ∙ ap (λ (x : Bool). x || any (size n) (λ k. p (sum n size + k))) (any_by_parts n size p)

-- ---- searches

-- a number below n that passes
abbrev pub Some : ℕ → (ℕ → Bool) → Type 0
Some n p = (i : ℕ) × (i < n) × (p i ≡ true)

-- no number below n passes
abbrev pub None : ℕ → (ℕ → Bool) → Type 0
None n p = (i : ℕ) → i < n → p i ≡ false

none_more : (n : ℕ) (p : ℕ → Bool) → None n p → p n ≡ false → None (suc n) p
none_more n p h e i l = ⊎_elim (λ q. rw q e) (λ k. h i k) (last-or_below n i l)

pub find : (n : ℕ) (p : ℕ → Bool) → Some n p ⊎ None n p
find zero p = inr (λ i l. absurd (not-suc-le-zero l))
find (suc n) p = go (find n p) (true-or-false (p n))
  where
    go : Some n p ⊎ None n p → (p n ≡ true) ⊎ (p n ≡ false) → Some (suc n) p ⊎ None (suc n) p
    go (inl r) t = inl (r.0, omega arith, r.2)
    go (inr h) (inl e) = inl (n, le_refl _, e)
    go (inr h) (inr e) = inr (none_more n p h e)

pub any_some : (n : ℕ) (p : ℕ → Bool) → any n p ≡ true → Some n p
any_some n p e = ⊎_elim (λ r. r) (λ h. clash (any n p) e (none_any n p h)) (find n p)

-- a number below n that passes and at which f is least
abbrev pub Least : ℕ → (ℕ → Bool) → (ℕ → ℕ) → Type 0
Least n p f = (j : ℕ) × (j < n) × (p j ≡ true) × ((i : ℕ) → i < n → p i ≡ true → f j ≤ f i)

pub argmin : (n : ℕ) (p : ℕ → Bool) (f : ℕ → ℕ) → Least n p f ⊎ None n p
argmin zero p f = inr (λ i l. absurd (not-suc-le-zero l))
argmin (suc n) p f = go (argmin n p f) (true-or-false (p n))
  where
    -- what holds of the numbers below n and of n
    both : {P : ℕ → Type 0} → ((i : ℕ) → i < n → P i) → P n → (i : ℕ) → i < suc n → P i
    both {P} h e i l = ⊎_elim (λ q. rw q e) (λ k. h i k) (last-or_below n i l)

    pick : (r : Least n p f) → p n ≡ true → (f r.0 < f n) ⊎ (f n ≤ f r.0) → Least (suc n) p f
    pick r e (inl q) = (r.0, omega arith, r.2, both r.3 (λ t. omega arith))
    pick r e (inr q) = (n, le_refl _, e, both (λ i k t. let d = r.3 i k t in omega arith) (λ t. le_refl _))

    go : Least n p f ⊎ None n p → (p n ≡ true) ⊎ (p n ≡ false) → Least (suc n) p f ⊎ None (suc n) p
    go (inl r) (inl e) = inl (pick r e (less-or-not (f r.0) (f n)))
    go (inl r) (inr e) = inl (r.0, omega arith, r.2, both r.3 (λ t. clash (p n) t e))
    go (inr h) (inl e) = inl (n, le_refl _, e, both (λ i k t. clash (p i) t (h i k)) (λ t. le_refl _))
    go (inr h) (inr e) = inr (none_more n p h e)
