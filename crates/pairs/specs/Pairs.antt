-- Two jobs by their figures: modules, minutes and the sets of jobs that wait for each.
use Rattle.std.specs.Prelude.{◌≡◌, ℕ}
use Rattle.std.specs.Int.Bits.{bit_and}

-- job 1 may come in job 2's place
abbrev pub AreAlike : ℕ → ℕ → ℕ → ℕ → ℕ → ℕ → Type 0
AreAlike need1 need2 minutes1 minutes2 later1 later2 = (need1 ≡ need2) × ((minutes1 ≡ minutes2) × (bit_and later2 later1 ≡ later2))

-- job 2 may come in job 1's place
abbrev pub MaySwap : ℕ → ℕ → ℕ → ℕ → Type 0
MaySwap need1 need2 later1 later2 = (need1 ≡ need2) × (bit_and later1 later2 ≡ later1)
