-- How long numbers are when printed.
use mathlib.Core.Path.{◌≡◌, refl}
use mathlib.Core.Bool.{Bool, true, false, cond}
use mathlib.Core.List.{[], ◌∷◌}
use Prim.Native.Nat.{ℕ, suc, ◌/◌, ◌%◌, ◌≤◌}
use native.Mathlib.Omega.{arith}
use lib.Dec.{leb}
use lib.IntN.{ℤ, pos, negsuc}
use lib.ListN.{length, length-append}
use Rattle.counting.proofs.Joins.{joined_length}
use Rattle.text.specs.Numbers.{digit, place, decimal, signed, hex_digit, hexadecimal}

one-or-none : (b : Bool) (d : ℕ) → length (cond b (d ∷ []) []) ≤ 1
one-or-none true d = omega arith
one-or-none false d = omega arith

place_short : (p x : ℕ) → length (place p x) ≤ 1
unfolding place
place_short p x = one-or-none (leb p x) (digit (x / p % 10))

pub decimal_short : (x : ℕ) → length (decimal x) ≤ 5
unfolding decimal
decimal_short x =
    simp length-append (omega (arith, place_short 10000 x, place_short 1000 x, place_short 100 x, place_short 10 x))

pub signed_short : (z : ℤ) → length (signed z) ≤ 6
unfolding signed
signed_short (pos x) = omega (arith, decimal_short x)
signed_short (negsuc x) = omega (arith, decimal_short (suc x))

pub hexadecimal-length : (x : ℕ) → length (hexadecimal x) ≡ 16
unfolding hexadecimal
hexadecimal-length x = joined_length 16 1 (hex_digit x) (λ i l. refl)
