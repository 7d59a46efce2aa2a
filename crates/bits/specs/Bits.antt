-- Sets of small numbers, each held in one number: i is a member of x where bit i of x is set. Bit 0 is the lowest.
use Rattle.std.specs.Prelude.{◌≡◌, Bool, true, false, ℕ, ◌-◌, ◌/◌, ◌%◌, ◌^◌, ◌<◌, eqb, Option, MatchOption}
use Rattle.std.specs.Int.Bits.{bit_and, bit_or}
use Rattle.counting.specs.Counting.{only, sum}

-- i is a member of x
unfoldable pub bit : ℕ → ℕ → Bool
bit x i = eqb (x / 2 ^ i % 2) 1

-- x with i as a member
unfoldable pub with_bit : ℕ → ℕ → ℕ
with_bit x i = bit_or x (2 ^ i)

-- x without i as a member
unfoldable pub without_bit : ℕ → ℕ → ℕ
without_bit x i = x - bit_and x (2 ^ i)

-- the set of the numbers below n that pass f
unfoldable pub set_of : ℕ → (ℕ → Bool) → ℕ
set_of n f = sum n (λ m. only (f m) (2 ^ m))

-- a step of a walk over the members of x, a word of w bits: it gives the lowest and leaves the others, or ends where there is none
abbrev pub LowestFirst : ℕ → ℕ → Option ℕ → ℕ → Type 0
LowestFirst w x r rest =
    MatchOption r ((x ≡ 0) × (rest ≡ 0))
    (λ k. (k < w) × (bit x k ≡ true) × ((i : ℕ) → i < k → bit x i ≡ false) × (rest ≡ without_bit x k))
