-- The order of checks (requirements, C): a refusal is the number of the first check that fails.
use Rattle.std.specs.Prelude.{◌≡◌, Bool, true, false, cond, List, [], ◌∷◌, ℕ, ◌<◌, length, get_or}

-- a check: its number, and its test, which is true where the check fails
abbrev pub Check : Type 0
Check = ℕ × Bool

-- "A refusal gives its number": that of the first check of the list that fails, and 0 where none does
unfoldable pub first_failing : List Check → ℕ
first_failing [] = 0
first_failing (c ∷ cs) = cond c.1 c.0 (first_failing cs)

-- check k of the list fails, and none that stands before it does
pub record FirstFails (cs : List Check) (k : ℕ) : Type 0 where
  pub place : ℕ
  pub listed : place < length cs
  pub fails : get_or cs place (0, false) ≡ (k, true)
  pub earlier : (i : ℕ) → i < place → (get_or cs i (0, false)).1 ≡ false

-- no check of the list fails
abbrev pub NoneFails : List Check → Type 0
NoneFails cs = (i : ℕ) → i < length cs → (get_or cs i (0, false)).1 ≡ false
