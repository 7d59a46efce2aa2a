-- Which number a list of checks gives: that of the first that fails, and 0 where none does.
use mathlib.Core.Path.{◌≡◌, refl, ap, ap₂}
use mathlib.Core.Logic.{◌↔◌, ◌≢◌}
use mathlib.Core.Bool.{Bool, true, false, not, ◌&&◌}
use mathlib.Core.List.{List, [], ◌∷◌, ◌++◌}
use Prim.Native.Nat.{ℕ, zero, suc, ◌<◌}
use native.Mathlib.Nat.{not-suc-le-zero, le_of_suc-le-suc}
use native.Mathlib.Omega.{arith}
use lib.Dec.{ltb, eqb}
use lib.ListN.{length, get_or}
use borrow.Author.Tests.{ltb-true, eqb-false, not-true}
use Rattle.counting.proofs.Tests.{and_left, and_right, clash}
use Rattle.checking.specs.Checking.{Check, first_failing, FirstFails, NoneFails}

-- every check of the list passes
abbrev pub Passed : List Check → Type 0
Passed [] = Unit {0}
Passed (c ∷ cs) = (c.1 ≡ false) × Passed cs

-- every check has a number above n: it computes on a written list
abbrev pub numbered_above : ℕ → List Check → Bool
numbered_above n [] = true
numbered_above n (c ∷ cs) = ltb n c.0 && numbered_above n cs

-- the first number, and those behind it
above_first : (n : ℕ) (c : Check) (cs : List Check) → numbered_above n (c ∷ cs) ≡ true → n < c.0
above_first n c cs e = ltb-true n c.0 (and_left (ltb n c.0) (numbered_above n cs) e)

above_rest : (n : ℕ) (c : Check) (cs : List Check) → numbered_above n (c ∷ cs) ≡ true → numbered_above n cs ≡ true
above_rest n c cs e = and_right (ltb n c.0) (numbered_above n cs) e

pub all_passed : (cs : List Check) → numbered_above 0 cs ≡ true → first_failing cs ≡ 0 → Passed cs
unfolding first_failing
all_passed [] n e = tt
all_passed (c ∷ cs) n e = go c.1 refl (all_passed cs (above_rest 0 c cs n))
  where
    go : (b : Bool) → c.1 ≡ b → (first_failing cs ≡ 0 → Passed cs) → Passed (c ∷ cs)
    go true q h =
        let z : c.0 ≡ 0 = rw q at e in
        absurd (omega (arith, above_first 0 c cs n))
    go false q h = let z : first_failing cs ≡ 0 = rw q at e in (q, h z)

pub none_failing : (cs : List Check) → Passed cs → first_failing cs ≡ 0
unfolding first_failing
none_failing [] p = refl
none_failing (c ∷ cs) p = rw p.0 (none_failing cs p.1)

-- a passed list is taken apart at its joint
pub both_passed : (a b : List Check) → Passed (a ++ b) → Passed a × Passed b
both_passed [] b p = (tt, p)
both_passed (c ∷ cs) b p = let q = both_passed cs b p.1 in ((p.0, q.0), q.1)

-- and made of its two parts
pub together_passed : (a b : List Check) → Passed a → Passed b → Passed (a ++ b)
together_passed [] b p q = q
together_passed (c ∷ cs) b p q = (p.0, together_passed cs b p.1 q)

-- a failing check in front decides, and passed ones in front do not count
pub first_in_front : (a b : List Check) → (first_failing a ≡ 0 → ⊥) → first_failing (a ++ b) ≡ first_failing a
unfolding first_failing
first_in_front [] b h = absurd (h refl)
first_in_front (c ∷ cs) b h = go c.1 refl (first_in_front cs b)
  where
    go : (t : Bool) → c.1 ≡ t → ((first_failing cs ≡ 0 → ⊥) → first_failing (cs ++ b) ≡ first_failing cs)
        → first_failing (c ∷ (cs ++ b)) ≡ first_failing (c ∷ cs)
    go true q r = rw q
    go false q r = rw q (r (λ z. h (rw q z)))

pub first-behind : (a b : List Check) → Passed a → first_failing (a ++ b) ≡ first_failing b
unfolding first_failing
first-behind [] b p = refl
first-behind (c ∷ cs) b p = rw p.0 (first-behind cs b p.1)

-- ---- the number is k exactly when check k fails and no earlier one does

refused-at : (cs : List Check) (k : ℕ) → 0 < k → first_failing cs ≡ k → FirstFails cs k
unfolding first_failing
refused-at [] k h e = absurd (omega arith)
refused-at (c ∷ cs) k h e = go c.1 refl (refused-at cs k h)
  where
    go : (b : Bool) → c.1 ≡ b → (first_failing cs ≡ k → FirstFails cs k) → FirstFails (c ∷ cs) k
    go true q r =
        let z : c.0 ≡ k = rw q at e in
        record {
          place = 0;
          listed = omega arith;
          fails = ap₂ (λ (n : ℕ) (b : Bool). (n, b)) z q;
          earlier = λ i l. absurd (not-suc-le-zero l);
        }
    go false q r =
        let z : first_failing cs ≡ k = rw q at e in
        let f = r z in
        record { place = suc f.place; listed = omega arith; fails = f.fails; earlier = behind f }
      where
        behind : (f : FirstFails cs k) (i : ℕ) → i < suc f.place → (get_or (c ∷ cs) i (0, false)).1 ≡ false
        behind f zero l = q
        behind f (suc i) l = f.earlier i (le_of_suc-le-suc l)

number_at : (cs : List Check) (k p : ℕ) → p < length cs → get_or cs p (0, false) ≡ (k, true)
    → ((i : ℕ) → i < p → (get_or cs i (0, false)).1 ≡ false) → first_failing cs ≡ k
unfolding first_failing
number_at [] k p l e h = absurd (not-suc-le-zero l)
number_at (c ∷ cs) k zero l e h = rw (ap (λ (x : Check). x.1) e) (ap (λ (x : Check). x.0) e)
number_at (c ∷ cs) k (suc p) l e h = rw (h 0 (omega arith)) (number_at cs k p (le_of_suc-le-suc l) e (λ i m. h (suc i) (omega arith)))

pub refused_exactly : (cs : List Check) (k : ℕ) → 0 < k → (first_failing cs ≡ k) ↔ FirstFails cs k
refused_exactly cs k h = (refused-at cs k h, λ f. number_at cs k f.place f.listed f.fails f.earlier)

-- ---- and 0 exactly when none fails

passed-at : (cs : List Check) → Passed cs → NoneFails cs
passed-at [] p i l = absurd (not-suc-le-zero l)
passed-at (c ∷ cs) p zero l = p.0
passed-at (c ∷ cs) p (suc i) l = passed-at cs p.1 i (le_of_suc-le-suc l)

at_passed : (cs : List Check) → NoneFails cs → Passed cs
at_passed [] h = tt
at_passed (c ∷ cs) h = (h 0 (omega arith), at_passed cs (λ i l. h (suc i) (omega arith)))

pub answered_exactly : (cs : List Check) → numbered_above 0 cs ≡ true → (first_failing cs ≡ 0) ↔ NoneFails cs
answered_exactly cs n = (λ e. passed-at cs (all_passed cs n e), λ h. none_failing cs (at_passed cs h))

-- ---- a list's first check, where its number stands nowhere behind it

-- no check of the list has the number n: it computes on a written list
abbrev pub not_among : ℕ → List Check → Bool
not_among n [] = true
not_among n (c ∷ cs) = not (eqb c.0 n) && not_among n cs

not_later : (n : ℕ) → 0 < n → (cs : List Check) → not_among n cs ≡ true → first_failing cs ≢ n
unfolding first_failing
not_later n p [] a e = omega arith
not_later n p (c ∷ cs) a e = go c.1 refl (not_later n p cs (and_right (not (eqb c.0 n)) (not_among n cs) a))
  where
    go : (b : Bool) → c.1 ≡ b → first_failing cs ≢ n → ⊥
    go true q rest =
        let z : c.0 ≡ n = rw q at e in
        eqb-false c.0 n (not-true _ (and_left (not (eqb c.0 n)) (not_among n cs) a)) z
    go false q rest = rest (rw q at e)

-- its number is given exactly when it fails
pub first_exactly : (n : ℕ) → 0 < n → (b : Bool) (cs : List Check) → not_among n cs ≡ true
    → (first_failing ((n, b) ∷ cs) ≡ n) ↔ (b ≡ true)
unfolding first_failing
first_exactly n p true cs a = ((λ e. refl), λ e. refl)
first_exactly n p false cs a = ((λ e. absurd (not_later n p cs a e)), λ e. clash false e refl)
