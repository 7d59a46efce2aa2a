-- "Numbers of several bytes are little-endian": the one place where numbers and bytes are said to go together.
use Rattle.std.specs.Prelude.{List, [], ◌∷◌, ◌++◌, ℕ, zero, suc, ◌+◌, ◌*◌, ◌/◌, ◌%◌, ◌^◌, get_or, take, drop}
use Rattle.counting.specs.Counting.{joined}

abbrev pub byte_at : List ℕ → ℕ → ℕ
byte_at s i = get_or s i 0

-- the number in the k bytes from `at` on, the lowest first
unfoldable pub number_at : List ℕ → ℕ → ℕ → ℕ
number_at s at zero = 0
number_at s at (suc k) = byte_at s (at + k) * 2 ^ (8 * k) + number_at s at k

-- the k lowest bytes of x, the lowest first
abbrev pub bytes_of : ℕ → ℕ → List ℕ
bytes_of k x = joined k (λ i. x / 2 ^ (8 * i) % 256 ∷ [])

-- s with the k bytes of x from `at` on
unfoldable pub written : List ℕ → ℕ → ℕ → ℕ → List ℕ
written s at k x = take at s ++ (bytes_of k x ++ drop (at + k) s)

-- numbers of two and of four bytes
abbrev pub u16_at : List ℕ → ℕ → ℕ
u16_at s at = number_at s at 2

abbrev pub u32_at : List ℕ → ℕ → ℕ
u32_at s at = number_at s at 4
