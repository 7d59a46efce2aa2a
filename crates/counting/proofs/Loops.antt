-- The folds one step on, as loops take them: from i to i + 1, and where a loop ends at a place that it found.
use mathlib.Core.Path.{◌≡◌, refl}
use mathlib.Core.Bool.{Bool, true, false}
use mathlib.Core.Logic.{⊎_elim}
use Prim.Native.Nat.{ℕ, ◌+◌, ◌<◌}
use native.Mathlib.Numerals.{add-one}
use Rattle.counting.specs.Counting.{sum, every, any}
use Rattle.counting.proofs.Tests.{true-or-false, clash}
use Rattle.counting.proofs.Ranges.{every-at, any_none}

pub sum_more : (f : ℕ → ℕ) (i t : ℕ) → t ≡ sum i f → t + f i ≡ sum (i + 1) f
unfolding sum
sum_more f i t e = rw (add-one, e) refl

pub every_more : (p : ℕ → Bool) (i : ℕ) → every i p ≡ true → p i ≡ true → every (i + 1) p ≡ true
unfolding every
every_more p i a b = rw (add-one, a, b) refl

pub any_more : (p : ℕ → Bool) (i : ℕ) → any i p ≡ false → p i ≡ false → any (i + 1) p ≡ false
unfolding any
any_more p i a b = rw (add-one, a, b) refl

-- a loop that finds a place at once knows the answer
pub every-not : (n : ℕ) (p : ℕ → Bool) (i : ℕ) → i < n → p i ≡ false → every n p ≡ false
every-not n p i l e = ⊎_elim (λ a. clash (p i) (every-at n p a i l) e) (λ a. a) (true-or-false (every n p))

pub any_at : (n : ℕ) (p : ℕ → Bool) (i : ℕ) → i < n → p i ≡ true → any n p ≡ true
any_at n p i l e = ⊎_elim (λ a. a) (λ a. clash (p i) e (any_none n p a i l)) (true-or-false (any n p))
