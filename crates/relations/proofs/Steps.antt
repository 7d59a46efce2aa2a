-- A turn of a loop over the first n of at most 20 places.
use mathlib.Core.Path.{◌≡◌}
use Prim.Native.Nat.{ℕ, suc, ◌*◌, ◌≤◌, ◌<◌}
use native.Mathlib.Omega.{arith}
use mir.Syntax.{w64}
use mir.Val.{Fits}

module _ {k n : ℕ} (l : k < n) (few : n ≤ 20) where
  pub in_20 : k < 20
  in_20 = omega arith

  -- where an element of 2 bytes stands
  pub at_2 : Fits w64 (k * 2)
  at_2 = record { fits = omega arith }

pub one_less : {k n : ℕ} → suc k ≡ n → k < n
one_less e = omega arith
