-- Which of a set of jobs can run beside no other of it, and which start before one can have ended and rested.
use Rattle.std.specs.Prelude.{◌≡◌, ◌⊎◌, true, List, ℕ, ◌+◌, ◌<◌, get_or}
use Rattle.std.specs.Int.Bits.{bit_and}
use Rattle.bits.specs.Bits.{bit}
use Rattle.tables.specs.declared.Jobs.{Jobs}
use Rattle.tables.specs.Tables.{kept_at, count_of}
use Rattle.relations.specs.Relations.{row_at}

-- job i can run beside no other job of the set
abbrev pub Alone : List ℕ → ℕ → ℕ → Type 0
Alone related set i = bit_and set (row_at related i).beside ≡ 0

-- no end: no job keeps its modules longer
abbrev pub no_end : ℕ
no_end = 131070

-- r is a minute by which one of the jobs can have ended and rested, or no end
abbrev pub EndOfOne : Jobs → List ℕ → ℕ → Type 0
EndOfOne t at r = (r ≡ no_end) ⊎ ((i : ℕ) × (i < count_of t) × (r ≡ get_or at i 0 + kept_at t i))

-- r has the jobs of the set that start before minute `end`
abbrev pub AllEarly : List ℕ → ℕ → ℕ → ℕ → ℕ → Type 0
AllEarly at end set n r = (j : ℕ) → j < n → bit set j ≡ true → get_or at j 0 < end → bit r j ≡ true
