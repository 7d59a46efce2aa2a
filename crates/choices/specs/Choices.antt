-- Sums of the minutes for which some of the jobs keep their modules.
use Rattle.std.specs.Prelude.{◌≡◌, Bool, true, List, ℕ, ◌+◌, ◌*◌, ◌≤◌, ◌<◌, leb, length, get_or}
use Rattle.counting.specs.Counting.{only, sum, largest}
use Rattle.bits.specs.Bits.{bit}
use Rattle.tables.specs.declared.Jobs.{Jobs}
use Rattle.tables.specs.Tables.{kept_at, most_kept}

-- how long those of the first `jobs` jobs that are in X keep a module, one after another
abbrev pub together : Jobs → ℕ → (ℕ → Bool) → ℕ
together t jobs X = sum jobs (λ k. only (X k) (kept_at t k))

-- the jobs of X are in the set
abbrev pub Within : (ℕ → Bool) → ℕ → Type 0
Within X set = (k : ℕ) → X k ≡ true → bit set k ≡ true

-- among the first `count` sums, where there are any, is that of each choice from the first `jobs` jobs of the set
pub record SumsOf (t : Jobs) (set jobs : ℕ) (at : List ℕ) (count : ℕ) : Type 0 where
  pub few : count ≤ length at
  pub short : (i : ℕ) → i < count → get_or at i 0 ≤ most_kept * jobs
  pub each : 0 < count → (X : ℕ → Bool) → Within X set → (i : ℕ) × (i < count) × (get_or at i 0 ≡ together t jobs X)

-- behind the first `count` sums is room for the same with so many minutes more
pub record Room (at : List ℕ) (count minutes : ℕ) : Type 0 where
  pub few : 2 * count ≤ length at
  pub fits : (i : ℕ) → i < count → get_or at i 0 + minutes < 65536

-- those stand behind the first `count` sums, which are as they were
pub record Doubled (at at' : List ℕ) (count minutes : ℕ) : Type 0 where
  pub kept : (i : ℕ) → i < count → get_or at' i 0 ≡ get_or at i 0
  pub more : (i : ℕ) → i < count → get_or at' (count + i) 0 ≡ get_or at i 0 + minutes

-- the largest of the first `count` sums that is not above x
unfoldable pub longest : List ℕ → ℕ → ℕ → ℕ
longest at count x = largest count (λ i. only (leb (get_or at i 0) x) (get_or at i 0))
