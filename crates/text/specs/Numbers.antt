-- Numbers as they are printed: requirements, X.
use Rattle.std.specs.Prelude.{cond, List, [], ◌∷◌, ◌++◌, ℕ, suc, ◌+◌, ◌-◌, ◌*◌, ◌/◌, ◌%◌, ◌^◌, ltb, leb, ℤ, pos, negsuc}
use Rattle.counting.specs.Counting.{joined}

-- the byte of a digit: 0 to 9, then A to F
unfoldable pub digit : ℕ → ℕ
digit d = cond (ltb d 10) (48 + d) (55 + d)

-- the digit at the place p (10, 100, …), where the number reaches it: no zero stands in front
unfoldable pub place : ℕ → ℕ → List ℕ
place p x = cond (leb p x) (digit (x / p % 10) ∷ []) []

-- a number below 100000 in decimal: `decimal_is` says that these are its digits
unfoldable pub decimal : ℕ → List ℕ
decimal x = place 10000 x ++ (place 1000 x ++ (place 100 x ++ (place 10 x ++ (digit (x % 10) ∷ []))))

-- "printed with its sign": a minus sign where it is negative
unfoldable pub signed : ℤ → List ℕ
signed (pos x) = decimal x
signed (negsuc x) = 45 ∷ decimal (suc x)

-- the i-th of sixteen hexadecimal digits, four bits each, from the highest on
abbrev pub hex_digit : ℕ → ℕ → List ℕ
hex_digit x i = digit (x / 2 ^ (4 * (15 - i)) % 16) ∷ []

-- "16 upper-case hexadecimal digits"
unfoldable pub hexadecimal : ℕ → List ℕ
hexadecimal x = joined 16 (hex_digit x)
