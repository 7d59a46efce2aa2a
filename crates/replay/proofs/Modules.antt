-- The modules of sets together.
use mathlib.Core.Path.{◌≡◌, sym, ap, ◌∙◌}
use mathlib.Core.Bool.{◌||◌}
use Prim.Native.Nat.{ℕ, zero, suc, ◌+◌}
use native.Mathlib.Numerals.{add-one}
use lib.Bits.{bit_or}
use Rattle.counting.specs.Counting.{any}
use Rattle.bits.specs.Bits.{bit}
use Rattle.bits.proofs.Digits.{bit-none, bit-or}
use Rattle.replay.specs.Slots.{union}

pub bit-union : (n : ℕ) (f : ℕ → ℕ) (m : ℕ) → bit (union n f) m ≡ any n (λ i. bit (f i) m)
unfolding union any
bit-union zero f m = bit-none m
bit-union (suc n) f m = bit-or (union n f) (f n) m ∙ ap (λ b. b || bit (f n) m) (bit-union n f m)

pub union_more : (n : ℕ) (f : ℕ → ℕ) → bit_or (union n f) (f n) ≡ union (n + 1) f
unfolding union
union_more n f = ap (λ (k : ℕ). union k f) (sym (add-one n))
