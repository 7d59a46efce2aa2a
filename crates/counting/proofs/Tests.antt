-- Laws of Boolean tests, used as equations `b ≡ true` and `b ≡ false`.
use mathlib.Core.Path.{◌≡◌, refl, sym}
use mathlib.Core.Logic.{◌⊎◌, inl, inr, ◌≢◌}
use mathlib.Core.Bool.{Bool, true, false, not, ◌&&◌, ◌||◌}
use Prim.Native.Nat.{ℕ, suc, ◌+◌, ◌*◌, ◌≤◌, ◌<◌, zero-le}
use native.Mathlib.Omega.{arith}
use native.Mathlib.Nat.{le_refl}
use lib.Dec.{ltb, eqb}
use borrow.Author.Tests.{ltb-true, ltb-false, eqb-true, eqb-false, eq-eqb, ne_eqb}
use Rattle.counting.specs.Counting.{only}

-- ---- a test is true or false, and not both

pub true-or-false : (b : Bool) → (b ≡ true) ⊎ (b ≡ false)
true-or-false true = inl refl
true-or-false false = inr refl

pub clash {ℓ} : {A : Type ℓ} (b : Bool) → b ≡ true → b ≡ false → A
clash b p q = absurd (let z : ◌≡◌ {A = ℕ} 0 1 = cc in omega arith)

-- ---- and, or, not

pub and_left : (a b : Bool) → (a && b) ≡ true → a ≡ true
and_left true b e = refl
and_left false b e = e

pub and_right : (a b : Bool) → (a && b) ≡ true → b ≡ true
and_right true b e = e
and_right false true e = refl
and_right false false e = e

pub and_both : (a b : Bool) → a ≡ true → b ≡ true → (a && b) ≡ true
and_both a b p q = rw (p, q)

pub or_left : (a b : Bool) → (a || b) ≡ false → a ≡ false
or_left true b e = e
or_left false b e = refl

pub or_right : (a b : Bool) → (a || b) ≡ false → b ≡ false
or_right true true e = e
or_right true false e = refl
or_right false b e = e

pub or-false : (a : Bool) → a ≡ (a || false)
or-false true = refl
or-false false = refl

pub or_assoc : (a b c : Bool) → ((a || b) || c) ≡ (a || (b || c))
or_assoc true b c = refl
or_assoc false b c = refl

-- one of the two
pub or_either : (a b : Bool) → (a || b) ≡ true → (a ≡ true) ⊎ (b ≡ true)
or_either true b e = inl refl
or_either false b e = inr e

pub or_first : (a b : Bool) → a ≡ true → (a || b) ≡ true
or_first a b p = rw p

pub or_second : (a b : Bool) → b ≡ true → (a || b) ≡ true
or_second true b p = refl
or_second false b p = p

pub not_of_false : (b : Bool) → b ≡ false → not b ≡ true
not_of_false b p = rw p

-- `not a || b` says that a implies b
pub implied : (a b : Bool) → (not a || b) ≡ true → a ≡ true → b ≡ true
implied true b e q = e
implied false b e q = clash false q refl

pub implication : (a b : Bool) → (a ≡ true → b ≡ true) → (not a || b) ≡ true
implication true b h = h refl
implication false b h = refl

-- two tests that hold together are one
pub same_test : (a b : Bool) → (a ≡ true → b ≡ true) → (b ≡ true → a ≡ true) → a ≡ b
same_test true true f g = refl
same_test true false f g = clash false (f refl) refl
same_test false true f g = clash false (g refl) refl
same_test false false f g = refl

-- ---- numbers

pub less-or-not : (a b : ℕ) → (a < b) ⊎ (b ≤ a)
less-or-not a b = go (ltb a b) refl
  where
    go : (t : Bool) → ltb a b ≡ t → (a < b) ⊎ (b ≤ a)
    go true e = inl (ltb-true a b e)
    go false e = inr (ltb-false a b e)

pub same_or_not : (a b : ℕ) → (a ≡ b) ⊎ (a ≢ b)
same_or_not a b = go (eqb a b) refl
  where
    go : (t : Bool) → eqb a b ≡ t → (a ≡ b) ⊎ (a ≢ b)
    go true e = inl (eqb-true a b e)
    go false e = inr (eqb-false a b e)

pub eqb_turned : (a b : ℕ) → eqb a b ≡ eqb b a
eqb_turned a b = go (same_or_not a b)
  where
    go : (a ≡ b) ⊎ (a ≢ b) → eqb a b ≡ eqb b a
    go (inl e) = rw (eq-eqb a b e, eq-eqb b a (sym e)) refl
    go (inr d) = rw (ne_eqb a b d, ne_eqb b a (λ e. d (sym e))) refl

-- a number below suc n is n or below n
pub last-or_below : (n i : ℕ) → i < suc n → (i ≡ n) ⊎ (i < n)
last-or_below n i l = go (same_or_not i n)
  where
    go : (i ≡ n) ⊎ (i ≢ n) → (i ≡ n) ⊎ (i < n)
    go (inl e) = inl e
    go (inr d) = inr (omega arith)

-- what holds below suc n holds below n
pub below_suc : {P : ℕ → Type 0} (n : ℕ) → ((i : ℕ) → i < suc n → P i) → (i : ℕ) → i < n → P i
below_suc n h i l = h i (omega arith)

-- ---- only

pub only-le : (b : Bool) (x : ℕ) → only b x ≤ x
only-le true x = le_refl x
only-le false x = zero-le

pub only_mono : (a b : Bool) (x : ℕ) → (a ≡ true → b ≡ true) → only a x ≤ only b x
only_mono true b x h = rw (h refl) (le_refl x)
only_mono false b x h = zero-le

-- what passes the test is within the bound
pub only_within : (b : Bool) (x y : ℕ) → (b ≡ true → x ≤ y) → only b x ≤ y
only_within true x y h = h refl
only_within false x y h = zero-le

-- with the test and without it
pub only_split : (b : Bool) (x : ℕ) → x ≡ only b x + only (not b) x
only_split true x = omega arith
only_split false x = omega arith

-- a product with it
pub only-mul : (b : Bool) (x y : ℕ) → only b x * y ≡ only b (x * y)
only-mul true x y = refl
only-mul false x y = omega arith

pub mul-only : (b : Bool) (x y : ℕ) → x * only b y ≡ only b (x * y)
mul-only true x y = refl
mul-only false x y = omega arith
