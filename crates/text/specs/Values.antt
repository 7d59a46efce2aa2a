-- What printed digits stand for, and which bytes are digits.
use Rattle.std.specs.Prelude.{◌≡◌, ◌⊎◌, ◌≢◌, cond, List, [], ◌∷◌, ℕ, suc, ◌+◌, ◌-◌, ◌*◌, ◌≤◌, ◌<◌, leb, ℤ, pos, negsuc, length, get_or}

-- what a digit stands for: bytes 48 to 57 for 0 to 9, 65 to 70 for 10 to 15
abbrev pub digit_value_of : ℕ → ℕ
digit_value_of b = cond (leb b 57) (b - 48) (b - 55)

-- what digits to a base stand for, the highest first, behind a number whose digits came before them
unfoldable pub value_from : ℕ → ℕ → List ℕ → ℕ
value_from base n [] = n
value_from base n (b ∷ bs) = value_from base (base * n + digit_value_of b) bs

-- P holds of each byte
abbrev pub Each : (ℕ → Type 0) → List ℕ → Type 0
Each P [] = Unit {0}
Each P (b ∷ bs) = P b × Each P bs

abbrev pub DecimalDigit : ℕ → Type 0
DecimalDigit b = (48 ≤ b) × (b ≤ 57)

-- 0 to 9 or A to F
abbrev pub HexadecimalDigit : ℕ → Type 0
HexadecimalDigit b = DecimalDigit b ⊎ ((65 ≤ b) × (b ≤ 70))

-- a number in decimal: digits that stand for it, and none of two or more begins with a zero
pub record Decimal (bs : List ℕ) (x : ℕ) : Type 0 where
  pub some : 1 ≤ length bs
  pub digits : Each DecimalDigit bs
  pub value : value_from 10 0 bs ≡ x
  pub front : 1 < length bs → get_or bs 0 0 ≢ 48

-- a signed number: a minus sign (byte 45) in front of its digits where it is negative, and only there
abbrev pub Signed : List ℕ → ℤ → Type 0
Signed bs (pos x) = Decimal bs x
Signed bs (negsuc x) = (ds : List ℕ) × (bs ≡ 45 ∷ ds) × Decimal ds (suc x)

-- sixteen hexadecimal digits that stand for a number
pub record Hexadecimal (bs : List ℕ) (x : ℕ) : Type 0 where
  pub sixteen : length bs ≡ 16
  pub digits : Each HexadecimalDigit bs
  pub value : value_from 16 0 bs ≡ x
