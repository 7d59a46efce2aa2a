-- Laws of counts: how many numbers below n pass a test.
use mathlib.Core.Path.{◌≡◌, refl, sym, ap, ◌∙◌}
use mathlib.Core.Logic.{◌⊎◌, inl, inr}
use mathlib.Core.Bool.{Bool, true, false, not, ◌&&◌, ◌||◌}
use Prim.Native.Nat.{ℕ, zero, suc, ◌+◌, ◌*◌, ◌≤◌, ◌<◌, min, zero-le}
use native.Mathlib.Omega.{arith}
use native.Mathlib.Nat.{le_refl}
use lib.Dec.{ltb, eqb}
use borrow.Author.Tests.{ltb-true, ltb-false}
use Rattle.counting.specs.Counting.{only, sum, any, count}
use Rattle.counting.proofs.Tests.{true-or-false, only-le, only_mono, only_split, only-mul}
use Rattle.counting.proofs.Sums.{sum-le, sum_same, sum-mul, sum-zero, le-sum, sum_up, sum_insert}

pub count-le : (n : ℕ) (p : ℕ → Bool) → count n p ≤ n
unfolding sum
count-le zero p = le_refl 0
count-le (suc n) p = omega (arith, count-le n p, only-le (p n) 1)

-- more numbers, no lower a count
pub count_up : (m n : ℕ) (p : ℕ → Bool) → m ≤ n → count m p ≤ count n p
count_up m n p l = sum_up m n (λ i. only (p i) 1) l

pub count_mono : (n : ℕ) (p q : ℕ → Bool) → ((i : ℕ) → i < n → p i ≡ true → q i ≡ true) → count n p ≤ count n q
count_mono n p q h = sum-le n _ _ (λ i l. only_mono (p i) (q i) 1 (h i l))

pub count_same : (n : ℕ) (p q : ℕ → Bool) → ((i : ℕ) → i < n → p i ≡ q i) → count n p ≡ count n q
count_same n p q h = sum_same n _ _ (λ i l. ap (λ b. only b 1) (h i l))

pub count_none : (n : ℕ) (p : ℕ → Bool) → ((i : ℕ) → i < n → p i ≡ false) → count n p ≡ 0
count_none n p h = count_same n p (λ i. false) h ∙ sum-zero n

-- those that pass and those that do not are all
pub count-not : (n : ℕ) (p : ℕ → Bool) → count n p + count n (λ i. not (p i)) ≡ n
unfolding sum
count-not zero p = refl
count-not (suc n) p = omega (arith, count-not n p, only_split (p n) 1)

-- where all are counted, each passes
pub count_full : (n : ℕ) (p : ℕ → Bool) → n ≤ count n p → (i : ℕ) → i < n → p i ≡ true
count_full n p h i l = go (true-or-false (p i))
  where
    go : (p i ≡ true) ⊎ (p i ≡ false) → p i ≡ true
    go (inl e) = e
    go (inr e) =
        let one : only (not (p i)) 1 ≡ 1 = rw e in
        absurd (omega (arith, count-not n p, le-sum n (λ k. only (not (p k)) 1) i l))

-- where no two numbers pass, at most one is counted
pub count_one : (n : ℕ) (p : ℕ → Bool) → ((i k : ℕ) → i < n → k < n → p i ≡ true → p k ≡ true → i ≡ k) → count n p ≤ 1
unfolding sum
count_one zero p h = zero-le
count_one (suc n) p h = go (true-or-false (p n)) (count_one n p (λ i k l m. h i k (omega arith) (omega arith)))
  where
    go : (p n ≡ true) ⊎ (p n ≡ false) → count n p ≤ 1 → count n p + only (p n) 1 ≤ 1
    go (inr e) c = rw e (omega arith)
    go (inl e) c = let none : count n p ≡ 0 = count_none n p (λ i l. other i l (true-or-false (p i))) in rw e (omega arith)
      where
        other : (i : ℕ) → i < n → (p i ≡ true) ⊎ (p i ≡ false) → p i ≡ false
        other i l (inr q) = q
        other i l (inl q) = let z = h i n (omega arith) (le_refl _) q e in absurd (omega arith)

pub any-le-count : (n : ℕ) (p : ℕ → Bool) → only (any n p) 1 ≤ count n p
unfolding any sum
any-le-count zero p = zero-le
any-le-count (suc n) p = go (true-or-false (any n p)) (true-or-false (p n)) (any-le-count n p)
  where
    go : (any n p ≡ true) ⊎ (any n p ≡ false) → (p n ≡ true) ⊎ (p n ≡ false) → only (any n p) 1 ≤ count n p
        → only (any n p || p n) 1 ≤ count n p + only (p n) 1
    go (inl e) t c = let d : 1 ≤ count n p = rw e at c in rw e (omega arith)
    go (inr e) (inl q) c = rw (e, q) (omega arith)
    go (inr e) (inr q) c = rw (e, q) (omega arith)

pub count_insert : (n : ℕ) (d : ℕ → Bool) (j : ℕ) → j < n → d j ≡ false → count n (λ i. eqb i j || d i) ≡ suc (count n d)
count_insert n d j l e = omega (arith, sum_insert n d (λ i. 1) j l e)

-- the same for each number that passes
pub sum_alike : (n : ℕ) (p : ℕ → Bool) (c : ℕ) → sum n (λ i. only (p i) c) ≡ count n p * c
sum_alike n p c = sum_same n _ _ (λ i l. rw (only-mul (p i) 1 c) (ap (only (p i)) (omega arith))) ∙ sum-mul n (λ i. only (p i) 1) c

-- a test that does not depend on the number
pub only-count : (b : Bool) (n : ℕ) (p : ℕ → Bool) → only b (count n p) ≡ count n (λ m. b && p m)
only-count true n p = refl
only-count false n p = sym (sum-zero n)

-- of the numbers that pass, those with fewer than k such numbers below them are k, or all
pub count-lowest : (n : ℕ) (f : ℕ → Bool) (k : ℕ) → count n (λ m. f m && ltb (count m f) k) ≡ min k (count n f)
unfolding sum
count-lowest zero f k = omega arith
count-lowest (suc n) f k = go (true-or-false (f n)) (ltb (count n f) k) refl (count-lowest n f k)
  where
    go : (f n ≡ true) ⊎ (f n ≡ false) → (b : Bool) → ltb (count n f) k ≡ b
        → count n (λ m. f m && ltb (count m f) k) ≡ min k (count n f)
        → count n (λ m. f m && ltb (count m f) k) + only (f n && ltb (count n f) k) 1 ≡ min k (count n f + only (f n) 1)
    go (inr e) b q h = rw e (omega arith)
    go (inl e) true q h = rw (e, q) (omega (arith, ltb-true (count n f) k q))
    go (inl e) false q h = rw (e, q) (omega (arith, ltb-false (count n f) k q))
