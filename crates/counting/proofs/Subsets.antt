-- Sums over all sets of numbers below n, and their split on one number.
use mathlib.Core.Path.{◌≡◌, refl, ap, ◌∙◌}
use mathlib.Core.Bool.{Bool, true, false, not, ◌&&◌, ◌||◌, and-true, and-false}
use Prim.Native.Nat.{ℕ, zero, suc, ◌+◌, ◌≤◌, ◌<◌}
use native.Mathlib.Omega.{arith}
use lib.Dec.{eqb}
use borrow.Author.Tests.{eqb-true, eq-eqb, ne_eqb}
use Rattle.counting.specs.Counting.{only, every}

-- no numbers at all
abbrev pub none : ℕ → Bool
none i = false

-- the numbers of d, and j
abbrev pub adding : (ℕ → Bool) → ℕ → ℕ → Bool
adding d j i = eqb i j || d i

-- g added up over every set of numbers below n
unfoldable pub subsets : ℕ → ((ℕ → Bool) → ℕ) → ℕ
subsets zero g = g none
subsets (suc n) g = subsets n g + subsets n (λ d. g (adding d n))

-- the set has no number from n on
abbrev pub Within : ℕ → (ℕ → Bool) → Type 0
Within n d = (i : ℕ) → n ≤ i → d i ≡ false

pub subsets_same : (n : ℕ) (f g : (ℕ → Bool) → ℕ) → ((d : ℕ → Bool) → Within n d → f d ≡ g d) → subsets n f ≡ subsets n g
unfolding subsets
subsets_same zero f g h = h none (λ i l. refl)
subsets_same (suc n) f g h =
    let a = subsets_same n f g (λ d w. h d (λ i l. w i (omega arith))) in
    let b = subsets_same n (λ d. f (adding d n)) (λ d. g (adding d n)) (λ d w. h (adding d n) (λ i l. more d w i l)) in
    omega arith
  where
    more : (d : ℕ → Bool) → Within n d → (i : ℕ) → suc n ≤ i → adding d n i ≡ false
    more d w i l = rw (ne_eqb i n (λ e. omega arith)) (w i (omega arith))

pub subsets-add : (n : ℕ) (f g : (ℕ → Bool) → ℕ) → subsets n (λ d. f d + g d) ≡ subsets n f + subsets n g
unfolding subsets
subsets-add zero f g = refl
subsets-add (suc n) f g =
    let a = subsets-add n f g in
    let b = subsets-add n (λ d. f (adding d n)) (λ d. g (adding d n)) in
    omega arith

pub subsets-none : (n : ℕ) (f : (ℕ → Bool) → ℕ) → ((d : ℕ → Bool) → Within n d → f d ≡ 0) → subsets n f ≡ 0
unfolding subsets
subsets-none n f h = subsets_same n f (λ d. 0) h ∙ zeros n
  where
    zeros : (n : ℕ) → subsets n (λ d. 0) ≡ 0
    zeros zero = refl
    zeros (suc n) = let a = zeros n in omega arith

-- those with number j, and those without
pub subsets_split : (n j : ℕ) (p : (ℕ → Bool) → Bool)
    → subsets n (λ d. only (p d) 1) ≡ subsets n (λ d. only (not (d j) && p d) 1) + subsets n (λ d. only (d j && p d) 1)
subsets_split n j p =
    subsets_same n _ _ (λ d w. go (d j) (p d)) ∙ subsets-add n (λ d. only (not (d j) && p d) 1) (λ d. only (d j && p d) 1)
  where
    go : (a b : Bool) → only b 1 ≡ only (not a && b) 1 + only (a && b) 1
    go true true = refl
    go true false = refl
    go false true = refl
    go false false = refl

-- ---- sets that have all of D, and sets that have none of it

abbrev pub has : ℕ → (ℕ → Bool) → (ℕ → Bool) → Bool
has n D d = every n (λ i. not (D i) || d i)

abbrev pub misses : ℕ → (ℕ → Bool) → (ℕ → Bool) → Bool
misses n D d = every n (λ i. not (D i) || not (d i))

abbrev pub minus : (ℕ → Bool) → (ℕ → Bool) → ℕ → Bool
minus d D i = d i && not (D i)

every_same : (n : ℕ) (p q : ℕ → Bool) → ((i : ℕ) → i < n → p i ≡ q i) → every n p ≡ every n q
unfolding every
every_same zero p q h = refl
every_same (suc n) p q h = go (every_same n p q (λ i l. h i (omega arith))) (h n (omega arith))
  where
    go : every n p ≡ every n q → p n ≡ q n → (every n p && p n) ≡ (every n q && q n)
    go a b = rw (a, b) refl

-- below n, a set with n is the set
pub below : (n : ℕ) (d : ℕ → Bool) (i : ℕ) → i < n → adding d n i ≡ d i
below n d i l = rw (ne_eqb i n (λ e. omega arith)) refl

-- As many sets have all of D and, without it, pass q, as have none of D and pass q.
pub subsets_fixed : (n : ℕ) (D : ℕ → Bool) (q : (ℕ → Bool) → Bool)
    → subsets n (λ d. only (has n D d && q (minus d D)) 1) ≡ subsets n (λ d. only (misses n D d && q d) 1)
unfolding subsets every
subsets_fixed zero D q = refl
subsets_fixed (suc n) D q = go (D n) refl (subsets_fixed n D)
  where
    same_has : (d : ℕ → Bool) → has n D (adding d n) ≡ has n D d
    same_has d = every_same n (λ i. not (D i) || adding d n i) (λ i. not (D i) || d i) (λ i l. ap (λ b. not (D i) || b) (below n d i l))

    same_misses : (d : ℕ → Bool) → misses n D (adding d n) ≡ misses n D d
    same_misses d =
        every_same n (λ i. not (D i) || not (adding d n i)) (λ i. not (D i) || not (d i))
        (λ i l. ap (λ b. not (D i) || not b) (below n d i l))

    self : eqb n n ≡ true
    self = eq-eqb n n refl

    -- n is in D: the sets without it on one side, those with it on the other
    dropped : D n ≡ true → (d : ℕ → Bool) → minus (adding d n) D ≡ minus d D
    dropped e d = λ k i. at i (eqb i n) refl k
      where
        at : (i : ℕ) (b : Bool) → eqb i n ≡ b → minus (adding d n) D i ≡ minus d D i
        at i true x = let z : D i ≡ true = ap D (eqb-true i n x) ∙ e in rw z (two (adding d n i) (d i))
          where
            two : (a b : Bool) → (a && false) ≡ (b && false)
            two true true = refl
            two true false = refl
            two false true = refl
            two false false = refl
        at i false x = rw x refl

    kept : D n ≡ false → (d : ℕ → Bool) → minus (adding d n) D ≡ adding (minus d D) n
    kept e d = λ k i. at i (eqb i n) refl k
      where
        at : (i : ℕ) (b : Bool) → eqb i n ≡ b → minus (adding d n) D i ≡ adding (minus d D) n i
        at i true x = let z : D i ≡ false = ap D (eqb-true i n x) ∙ e in rw (x, z) refl
        at i false x = rw x refl

    go : (b : Bool) → D n ≡ b
        → ((q : (ℕ → Bool) → Bool) → subsets n (λ d. only (has n D d && q (minus d D)) 1) ≡ subsets n (λ d. only (misses n D d && q d) 1))
        → subsets (suc n) (λ d. only (has (suc n) D d && q (minus d D)) 1) ≡ subsets (suc n) (λ d. only (misses (suc n) D d && q d) 1)
    go true e h =
        let a = subsets-none n (λ d. only (has (suc n) D d && q (minus d D)) 1) (λ d w. rw (e, w n (omega arith), and-false (has n D d)) refl) in
        let b = subsets_same n (λ d. only (has (suc n) D (adding d n) && q (minus (adding d n) D)) 1)
        (λ d. only (has n D d && q (minus d D)) 1)
        (λ d w. rw (e, self, dropped e d, same_has d, and-true (has n D d)) refl) in
        let c = subsets_same n (λ d. only (misses (suc n) D d && q d) 1) (λ d. only (misses n D d && q d) 1)
        (λ d w. rw (e, w n (omega arith), and-true (misses n D d)) refl) in
        let f = subsets-none n (λ d. only (misses (suc n) D (adding d n) && q (adding d n)) 1)
        (λ d w. rw (e, self, same_misses d, and-false (misses n D d)) refl) in
        let r = h q in
        omega arith
    go false e h =
        let a = subsets_same n (λ d. only (has (suc n) D d && q (minus d D)) 1) (λ d. only (has n D d && q (minus d D)) 1)
        (λ d w. rw (e, and-true (has n D d)) refl) in
        let b = subsets_same n (λ d. only (has (suc n) D (adding d n) && q (minus (adding d n) D)) 1)
        (λ d. only (has n D d && q (adding (minus d D) n)) 1)
        (λ d w. rw (e, kept e d, same_has d, and-true (has n D d)) refl) in
        let c = subsets_same n (λ d. only (misses (suc n) D d && q d) 1) (λ d. only (misses n D d && q d) 1)
        (λ d w. rw (e, and-true (misses n D d)) refl) in
        let f = subsets_same n (λ d. only (misses (suc n) D (adding d n) && q (adding d n)) 1)
        (λ d. only (misses n D d && q (adding d n)) 1)
        (λ d w. rw (e, same_misses d, and-true (misses n D d)) refl) in
        let r = h q in
        let s = h (λ d. q (adding d n)) in
        omega arith
