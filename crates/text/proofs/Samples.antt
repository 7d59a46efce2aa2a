-- Numbers and lines, computed from the definitions.
use mathlib.Core.Path.{◌≡◌, refl}
use mathlib.Core.List.{[], ◌∷◌}
use lib.IntN.{pos, negsuc}
use Rattle.counting.specs.Counting.{joined}
use Rattle.text.specs.Numbers.{digit, place, decimal, signed, hexadecimal}
use Rattle.text.specs.Lines.{line}

-- 0, 7, 10, 1005, 28800 and 65535
pub decimals : (decimal 0 ≡ 48 ∷ []) × (decimal 7 ≡ 55 ∷ []) × (decimal 10 ≡ 49 ∷ 48 ∷ [])
    × (decimal 1005 ≡ 49 ∷ 48 ∷ 48 ∷ 53 ∷ []) × (decimal 28800 ≡ 50 ∷ 56 ∷ 56 ∷ 48 ∷ 48 ∷ [])
    × (decimal 65535 ≡ 54 ∷ 53 ∷ 53 ∷ 51 ∷ 53 ∷ [])
unfolding digit place decimal
decimals = (refl, refl, refl, refl, refl, refl)

-- 5 and -2879
pub signs : (signed (pos 5) ≡ 53 ∷ []) × (signed (negsuc 2878) ≡ 45 ∷ 50 ∷ 56 ∷ 55 ∷ 57 ∷ [])
unfolding digit place decimal signed
signs = (refl, refl)

-- the lowest ten and the highest two of 64 modules: C0000000000003FF
pub modules : hexadecimal 13835058055282164735
    ≡ 67 ∷ 48 ∷ 48 ∷ 48 ∷ 48 ∷ 48 ∷ 48 ∷ 48 ∷ 48 ∷ 48 ∷ 48 ∷ 48 ∷ 48 ∷ 51 ∷ 70 ∷ 70 ∷ []
unfolding digit hexadecimal joined
modules = refl

-- A, 0 and 12
pub fields : line (65 ∷ []) (decimal 0 ∷ decimal 12 ∷ []) ≡ 65 ∷ 32 ∷ 48 ∷ 32 ∷ 49 ∷ 50 ∷ 10 ∷ []
unfolding digit place decimal line
fields = refl
