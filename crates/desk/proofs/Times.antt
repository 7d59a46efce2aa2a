-- Figures times s: tests of two of them, their larger and smaller, their difference, and lists of them.
use mathlib.Core.Path.{◌≡◌, refl, sym, ap, ◌∙◌}
use mathlib.Core.Logic.{⊎_elim}
use mathlib.Core.List.{List, [], ◌∷◌, ◌++◌}
use Prim.Native.Nat.{ℕ, zero, suc, ◌+◌, ◌-◌, ◌*◌, ◌≤◌, ◌<◌, max, min}
use native.Mathlib.Omega.{arith}
use native.Mathlib.Nat.{zero-mul, add-mul, mul-le-mul_right, le_of_mul-le-mul_right, lt_of_mul-lt-mul_right, mul-lt-mul_of_pos_right}
use native.Mathlib.Nat.{le-mul_of_pos_right, max-eq_left, max-eq_right, min-eq_left, min-eq_right, le_trans}
use lib.Dec.{ltb, leb, eqb}
use lib.ListN.{length, get_or, set, drop, length-map}
use borrow.Author.Tests.{ltb-true, leb-true, eqb-true, lt-ltb, le-leb, eq-eqb}
use Rattle.counting.proofs.Tests.{same_test, less-or-not}
use Rattle.desk.specs.Desk.{zeros, padded}
use Rattle.desk.specs.Scaling.{times}

-- ---- tests

module _ (s : ℕ) (one : 1 ≤ s) where
  pub ltb-times : (a b : ℕ) → ltb (a * s) (b * s) ≡ ltb a b
  ltb-times a b =
      same_test _ _ (λ e. lt-ltb a b (lt_of_mul-lt-mul_right s (ltb-true (a * s) (b * s) e)))
      (λ e. lt-ltb (a * s) (b * s) (mul-lt-mul_of_pos_right (ltb-true a b e) one))

  pub leb-times : (a b : ℕ) → leb (a * s) (b * s) ≡ leb a b
  leb-times a b =
      same_test _ _ (λ e. le-leb a b (le_of_mul-le-mul_right (leb-true (a * s) (b * s) e) one))
      (λ e. le-leb (a * s) (b * s) (mul-le-mul_right s (leb-true a b e)))

  pub leb_one-times : (a : ℕ) → leb 1 (a * s) ≡ leb 1 a
  leb_one-times a =
      same_test _ _
      (λ e. le-leb 1 a (⊎_elim (λ (l : a < 1). let z : a ≡ 0 = omega arith in let y : 1 ≤ 0 * s = rw (← z) (leb-true 1 (a * s) e) in
      absurd (omega (arith, zero-mul s))) (λ l. l) (less-or-not a 1)))
      (λ e. le-leb 1 (a * s) (le_trans (leb-true 1 a e) (le-mul_of_pos_right a one)))

  pub zero-times : (k : ℕ) → eqb (k * s) 0 ≡ eqb k 0
  zero-times k =
      same_test _ _
      (λ e. eq-eqb k 0 (⊎_elim (λ (l : k < 1). omega arith)
      (λ (l : 1 ≤ k). absurd (let p = le_trans l (le-mul_of_pos_right k one) in omega (arith, eqb-true (k * s) 0 e))) (less-or-not k 1)))
      (λ e. let z : k ≡ 0 = eqb-true k 0 e in eq-eqb (k * s) 0 (rw z (zero-mul s)))

-- ---- numbers and lists

module _ (s : ℕ) where
  pub max-times : (a b : ℕ) → max (a * s) (b * s) ≡ max a b * s
  max-times a b =
      ⊎_elim (λ (l : a < b). max-eq_right (mul-le-mul_right s (omega arith)) ∙ ap (λ (x : ℕ). x * s) (sym (max-eq_right (omega arith))))
      (λ l. max-eq_left (mul-le-mul_right s l) ∙ ap (λ (x : ℕ). x * s) (sym (max-eq_left l))) (less-or-not a b)

  pub min-times : (a b : ℕ) → min (a * s) (b * s) ≡ min a b * s
  min-times a b =
      ⊎_elim (λ (l : a < b). min-eq_left (mul-le-mul_right s (omega arith)) ∙ ap (λ (x : ℕ). x * s) (sym (min-eq_left (omega arith))))
      (λ (l : b ≤ a). min-eq_right (mul-le-mul_right s l) ∙ ap (λ (x : ℕ). x * s) (sym (min-eq_right l))) (less-or-not a b)

  pub sub-times : (a b : ℕ) → a * s - b * s ≡ (a - b) * s
  sub-times a b =
      ⊎_elim
      (λ (l : a < b).
      let m : a * s ≤ b * s = mul-le-mul_right s (omega arith) in
      let z : a - b ≡ 0 = omega arith in
      rw z (omega (arith, zero-mul s)))
      (λ (l : b ≤ a).
      let e : (a - b + b) * s ≡ (a - b) * s + b * s = add-mul (a - b) b s in
      let f : a - b + b ≡ a = omega arith in
      let g : a * s ≡ (a - b) * s + b * s = rw f at e in
      omega arith)
      (less-or-not a b)

  pub at-times : (l : List ℕ) (i : ℕ) → get_or (times s l) i 0 ≡ get_or l i 0 * s
  at-times [] i = sym (zero-mul s)
  at-times (x ∷ l) zero = refl
  at-times (x ∷ l) (suc i) = at-times l i

  pub set-times : (l : List ℕ) (i h : ℕ) → set (times s l) i (h * s) ≡ times s (set l i h)
  set-times [] i h = refl
  set-times (x ∷ l) zero h = refl
  set-times (x ∷ l) (suc i) h = ap (λ (m : List ℕ). x * s ∷ m) (set-times l i h)

  pub append-times : (l m : List ℕ) → times s (l ++ m) ≡ times s l ++ times s m
  append-times [] m = refl
  append-times (x ∷ l) m = ap (λ (k : List ℕ). x * s ∷ k) (append-times l m)

  drop-times : (n : ℕ) (l : List ℕ) → times s (drop n l) ≡ drop n (times s l)
  drop-times zero l = refl
  drop-times (suc n) [] = refl
  drop-times (suc n) (x ∷ l) = drop-times n l

  pub zeros-times : times s zeros ≡ zeros
  zeros-times = rw (zero-mul s) refl

  pub padded-times : (l : List ℕ) → padded (times s l) ≡ times s (padded l)
  padded-times l =
      sym (append-times l (drop (length l) zeros)
      ∙ ap (λ (m : List ℕ). times s l ++ m)
      (drop-times (length l) zeros ∙ ap (drop (length l)) zeros-times
      ∙ ap (λ (n : ℕ). drop n zeros) (sym (length-map l (λ (x : ℕ). x * s)))))
