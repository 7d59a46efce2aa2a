-- Laws of sums over the numbers below n.
use mathlib.Core.Path.{◌≡◌, refl, sym, ap, ap₂, ◌∙◌}
use mathlib.Core.Logic.{◌⊎◌, inl, inr, ◌≢◌}
use mathlib.Core.Bool.{Bool, true, false, ◌||◌}
use Prim.Native.Nat.{ℕ, zero, suc, ◌+◌, ◌*◌, ◌≤◌, ◌<◌}
use native.Mathlib.Omega.{arith}
use native.Mathlib.Nat.{le_refl, not-suc-le-zero}
use lib.Dec.{ltb, eqb}
use borrow.Author.Tests.{eqb-true, eqb-false, eq-eqb, ne_eqb, lt-ltb, le-ltb}
use Rattle.counting.specs.Counting.{only, sum}
use Rattle.counting.proofs.Tests.{less-or-not, below_suc, last-or_below}

-- ---- compared place by place

pub sum-le : (n : ℕ) (f g : ℕ → ℕ) → ((i : ℕ) → i < n → f i ≤ g i) → sum n f ≤ sum n g
unfolding sum
sum-le zero f g h = le_refl 0
sum-le (suc n) f g h = omega (arith, sum-le n f g (below_suc n h), h n (le_refl _))

pub sum_same : (n : ℕ) (f g : ℕ → ℕ) → ((i : ℕ) → i < n → f i ≡ g i) → sum n f ≡ sum n g
unfolding sum
sum_same zero f g h = refl
sum_same (suc n) f g h = ap₂ ◌+◌ (sum_same n f g (below_suc n h)) (h n (le_refl _))

-- n numbers of at most c
pub sum_most : (n : ℕ) (f : ℕ → ℕ) (c : ℕ) → ((i : ℕ) → i < n → f i ≤ c) → sum n f ≤ n * c
unfolding sum
sum_most zero f c h = omega arith
sum_most (suc n) f c h = omega (arith, sum_most n f c (below_suc n h), h n (le_refl _))

pub le-sum : (n : ℕ) (f : ℕ → ℕ) (i : ℕ) → i < n → f i ≤ sum n f
unfolding sum
le-sum zero f i l = absurd (not-suc-le-zero l)
le-sum (suc n) f i l = go (last-or_below n i l) (le-sum n f i)
  where
    go : (i ≡ n) ⊎ (i < n) → (i < n → f i ≤ sum n f) → f i ≤ sum n f + f n
    go (inl e) h = rw e (omega arith)
    go (inr k) h = omega (arith, h k)

-- more numbers, no lower a sum
pub sum_up : (m n : ℕ) (f : ℕ → ℕ) → m ≤ n → sum m f ≤ sum n f
unfolding sum
sum_up m zero f l = let e : m ≡ 0 = omega arith in rw e (le_refl 0)
sum_up m (suc n) f l = go (last-or_below (suc n) m (omega arith)) (sum_up m n f)
  where
    go : (m ≡ suc n) ⊎ (m < suc n) → (m ≤ n → sum m f ≤ sum n f) → sum m f ≤ sum n f + f n
    go (inl e) h = rw e (le_refl _)
    go (inr k) h = omega (arith, h (omega arith))

-- ---- of sums, multiples and constants

pub sum-add : (n : ℕ) (f g : ℕ → ℕ) → sum n (λ i. f i + g i) ≡ sum n f + sum n g
unfolding sum
sum-add zero f g = refl
sum-add (suc n) f g = omega (arith, sum-add n f g)

pub sum-mul : (n : ℕ) (f : ℕ → ℕ) (c : ℕ) → sum n (λ i. f i * c) ≡ sum n f * c
unfolding sum
sum-mul zero f c = omega arith
sum-mul (suc n) f c = omega (arith, sum-mul n f c)

pub sum-zero : (n : ℕ) → sum n (λ i. 0) ≡ 0
unfolding sum
sum-zero zero = refl
sum-zero (suc n) = omega (arith, sum-zero n)

pub sum_const : (n c : ℕ) → sum n (λ i. c) ≡ n * c
unfolding sum
sum_const zero c = omega arith
sum_const (suc n) c = omega (arith, sum_const n c)

-- the rows' sums and the columns' sums add up to the same
pub sum_swap : (n m : ℕ) (f : ℕ → ℕ → ℕ) → sum n (λ i. sum m (λ j. f i j)) ≡ sum m (λ j. sum n (λ i. f i j))
unfolding sum
sum_swap zero m f = sym (sum-zero m)
sum_swap (suc n) m f = rw (sum_swap n m f) (sym (sum-add m (λ j. sum n (λ i. f i j)) (λ j. f n j)))

-- the first number apart
pub sum_first : (n : ℕ) (f : ℕ → ℕ) → sum (suc n) f ≡ f 0 + sum n (λ i. f (suc i))
unfolding sum
sum_first zero f = omega arith
sum_first (suc n) f = omega (arith, sum_first n f)

-- ---- over a set of numbers

-- over one number
pub sum_single : (n : ℕ) (g : ℕ → ℕ) (j : ℕ) → j < n → sum n (λ i. only (eqb i j) (g i)) ≡ g j
unfolding sum
sum_single zero g j l = absurd (not-suc-le-zero l)
sum_single (suc n) g j l = go (last-or_below n j l) (sum_single n g j)
  where
    go : (j ≡ n) ⊎ (j < n) → (j < n → sum n (λ i. only (eqb i j) (g i)) ≡ g j)
        → sum n (λ i. only (eqb i j) (g i)) + only (eqb n j) (g n) ≡ g j
    go (inl e) h =
        let none : sum n (λ i. only (eqb i j) (g i)) ≡ 0 =
        sum_same n _ (λ i. 0) (λ i k. ap (λ b. only b (g i)) (ne_eqb i j (λ q. absurd (omega arith)))) ∙ sum-zero n in
        let last : eqb n j ≡ true = eq-eqb n j (sym e) in
        rw last (omega (arith, ap g e))
    go (inr k) h = rw (ne_eqb n j (λ q. absurd (omega arith))) (omega (arith, h k))

-- over one number, or none
pub sum-at : (n : ℕ) (g : ℕ → ℕ) (j : ℕ) → sum n (λ i. only (eqb i j) (g i)) ≡ only (ltb j n) (g j)
sum-at n g j = go (less-or-not j n)
  where
    go : (j < n) ⊎ (n ≤ j) → sum n (λ i. only (eqb i j) (g i)) ≡ only (ltb j n) (g j)
    go (inl l) = rw (lt-ltb j n l) (sum_single n g j l)
    go (inr l) =
        rw (le-ltb j n l) (sum_same n _ (λ i. 0) (λ i k. ap (λ b. only b (g i)) (ne_eqb i j (λ q. absurd (omega arith)))) ∙ sum-zero n)

-- over one number more
pub sum_insert : (n : ℕ) (d : ℕ → Bool) (g : ℕ → ℕ) (j : ℕ) → j < n → d j ≡ false
    → sum n (λ i. only (eqb i j || d i) (g i)) ≡ sum n (λ i. only (d i) (g i)) + g j
sum_insert n d g j l e =
    let split : sum n (λ i. only (eqb i j || d i) (g i)) ≡ sum n (λ i. only (eqb i j) (g i)) + sum n (λ i. only (d i) (g i)) =
    sum_same n _ _ (λ i k. one i (eqb i j) refl) ∙ sum-add n (λ i. only (eqb i j) (g i)) (λ i. only (d i) (g i)) in
    omega (arith, sum_single n g j l)
  where
    one : (i : ℕ) (b : Bool) → eqb i j ≡ b → only (eqb i j || d i) (g i) ≡ only (eqb i j) (g i) + only (d i) (g i)
    one i true q = let z : d i ≡ false = rw (eqb-true i j q) e in rw (q, z) (omega arith)
    one i false q = rw q (omega arith)

-- one value put in at place `at`, and those from there on one place up
pub sum_put_in : (n at x : ℕ) (f g : ℕ → ℕ) → at ≤ n → ((k : ℕ) → k < at → g k ≡ f k) → g at ≡ x
    → ((k : ℕ) → at ≤ k → k < n → g (suc k) ≡ f k) → sum (suc n) g ≡ sum n f + x
unfolding sum
sum_put_in zero at x f g l below here above =
    let e : at ≡ 0 = omega arith in
    let h : g 0 ≡ x = rw e at here in
    omega arith
sum_put_in (suc n) at x f g l below here above =
    go (last-or_below (suc n) at (omega arith)) (λ k. sum_put_in n at x f g k below here (λ i a b. above i a (omega arith)))
  where
    go : (at ≡ suc n) ⊎ (at < suc n) → (at ≤ n → sum (suc n) g ≡ sum n f + x) → sum (suc n) g + g (suc n) ≡ sum (suc n) f + x
    go (inl e) h =
        let same = sum_same (suc n) g f (λ k m. below k (omega arith)) in
        let last : g (suc n) ≡ x = rw e at here in
        omega arith
    go (inr k) h = omega (arith, h (omega arith), above n (omega arith) (le_refl _))

-- two places that are compared together
pub sum_two-le : (n : ℕ) (f g : ℕ → ℕ) (i j : ℕ) → i < n → j < n → i ≢ j → f i + f j ≤ g i + g j
    → ((k : ℕ) → k < n → k ≢ i → k ≢ j → f k ≤ g k) → sum n f ≤ sum n g
sum_two-le n f g i j l m d two h =
    let each = sum-le n (λ k. f k + (only (eqb k i) (g k) + only (eqb k j) (g k))) (λ k. g k + (only (eqb k i) (f k) + only (eqb k j)
    (f k)))
    (λ k x. one k x (eqb k i) (eqb k j) refl refl) in
    omega (
      arith,
      each,
      two,
      sum-add n f (λ k. only (eqb k i) (g k) + only (eqb k j) (g k)),
      sum-add n (λ k. only (eqb k i) (g k)) (λ k. only (eqb k j) (g k)),
      sum_single n g i l,
      sum_single n g j m,
      sum-add n g (λ k. only (eqb k i) (f k) + only (eqb k j) (f k)),
      sum-add n (λ k. only (eqb k i) (f k)) (λ k. only (eqb k j) (f k)),
      sum_single n f i l,
      sum_single n f j m,
    )
  where
    one : (k : ℕ) → k < n → (a b : Bool) → eqb k i ≡ a → eqb k j ≡ b
        → f k + (only (eqb k i) (g k) + only (eqb k j) (g k)) ≤ g k + (only (eqb k i) (f k) + only (eqb k j) (f k))
    one k x true true p q = absurd (d (sym (eqb-true k i p) ∙ eqb-true k j q))
    one k x true false p q = rw (p, q) (omega arith)
    one k x false true p q = rw (p, q) (omega arith)
    one k x false false p q = rw (p, q) (omega (arith, h k x (eqb-false k i p) (eqb-false k j q)))
