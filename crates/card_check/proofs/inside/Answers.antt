-- `card_check::inside` meets its contract: the set shifted by the cabinet's modules is 0 exactly where it has no others.
use mathlib.Core.Path.{◌≡◌, refl}
use mathlib.Core.Logic.{◌⊎◌, inl, inr}
use Prim.Native.Nat.{ℕ, ◌/◌, ◌^◌, ◌<◌, ◌≤◌}
use native.Mathlib.Omega.{arith}
use native.Mathlib.Nat.{div-eq_of_lt, le-div_iff_mul-le}
use lib.Dec.{ltb, eqb}
use lib.Pow.{pow_pos}
use borrow.Author.Tests.{lt-ltb, le-ltb, ne_eqb}
use Rattle.counting.proofs.Tests.{less-or-not}
use Rattle.card_check.proofs.inside.Goals as goal

quotient : (x y : ℕ) → 0 < y → eqb (x / y) 0 ≡ ltb x y
quotient x y p = go (less-or-not x y)
  where
    go : (x < y) ⊎ (y ≤ x) → eqb (x / y) 0 ≡ ltb x y
    go (inl l) = rw (lt-ltb x y l, div-eq_of_lt l) refl
    go (inr l) =
        let q : 1 ≤ x / y = (le-div_iff_mul-le p).1 (omega (arith, l)) in
        rw (le-ltb x y l, ne_eqb (x / y) 0 (λ z. absurd (omega arith))) refl

pub returns-else-modules-eq64 : goal.returns-else-modules-eq64
returns-else-modules-eq64 c = quotient c.args.set (2 ^ c.args.modules) (pow_pos c.args.modules)
