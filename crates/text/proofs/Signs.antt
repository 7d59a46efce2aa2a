-- A signed number in 32 bits: its sign, and what is left without it.
use mathlib.Core.Path.{◌≡◌, refl, sym, ap, ◌∙◌}
use mathlib.Core.Bool.{true, false}
use mathlib.Core.List.{◌∷◌}
use Prim.Native.Nat.{ℕ}
use native.Mathlib.Omega.{arith}
use lib.IntN.{ℤ, pos, negsuc, nat_abs}
use lib.Signed.{lt_z}
use mir.Syntax.{w32}
use mir.Val.{SFits, of_z, to_z}
use mir.ValLaws.{to_z-of_z}
use borrow.Author.Tests.{ltb-true}
use Rattle.counting.proofs.Tests.{clash}
use Rattle.text.specs.Numbers.{decimal, signed}

below : (x : ℤ) → lt_z x (pos 0) ≡ true → (k : ℕ) × (x ≡ negsuc k)
below (pos n) e = absurd (omega (arith, ltb-true n 0 e))
below (negsuc k) e = (k, refl)

above : (x : ℤ) → lt_z x (pos 0) ≡ false → (n : ℕ) × (x ≡ pos n)
above (pos n) e = (n, refl)
above (negsuc k) e = clash true refl e

module _ (x : ℤ) (f : SFits w32 x) where
  -- the number as it is read back
  abbrev read : ℤ
  read = to_z w32 (of_z w32 x)

  read_is : read ≡ x
  read_is = to_z-of_z w32 x f

  module _ (e : lt_z read (pos 0) ≡ true) where
    negative : (k : ℕ) × (x ≡ negsuc k)
    negative = below x (ap (λ (z : ℤ). lt_z z (pos 0)) (sym read_is) ∙ e)

    pub with_sign : signed x ≡ 45 ∷ decimal (nat_abs read)
    unfolding signed
    with_sign = ap signed negative.1 ∙ ap (λ (z : ℤ). 45 ∷ decimal (nat_abs z)) (sym (read_is ∙ negative.1))

  module _ (e : lt_z read (pos 0) ≡ false) where
    positive : (n : ℕ) × (x ≡ pos n)
    positive = above x (ap (λ (z : ℤ). lt_z z (pos 0)) (sym read_is) ∙ e)

    pub without_sign : signed x ≡ decimal (nat_abs read)
    unfolding signed
    without_sign = ap signed positive.1 ∙ ap (λ (z : ℤ). decimal (nat_abs z)) (sym (read_is ∙ positive.1))
