-- A minute for each of the jobs that are left before which it cannot start: its release.
use Rattle.std.specs.Prelude.{◌≡◌, true, cond, List, ℕ, ◌+◌, ◌≤◌, ◌<◌, eqb, get_or}
use Rattle.figures.specs.Figures.{no_minute}
use Rattle.bits.specs.Bits.{bit}
use Rattle.tables.specs.declared.Jobs.{Jobs}
use Rattle.tables.specs.Tables.{minutes_at, earlier_at, count_of}

-- the minute before which the modules that are free keep job k from starting: its start if it may come next, and else minute l
unfoldable pub first_at : List ℕ → ℕ → ℕ → ℕ
first_at at l k = cond (eqb (get_or at k 0) no_minute) l (get_or at k 0)

-- starts of the jobs of a set: none lies before that minute, nor before the end of a job of the set that must have ended before
pub record Starting (t : Jobs) (at : List ℕ) (set l : ℕ) (start : ℕ → ℕ) : Type 0 where
  pub from : (k : ℕ) → k < count_of t → bit set k ≡ true → first_at at l k ≤ start k
  pub waits : (i k : ℕ) → i < count_of t → k < count_of t → bit set i ≡ true → bit set k ≡ true → bit (earlier_at t k) i ≡ true
      → start i + minutes_at t i ≤ start k

-- no such start lies before the release of its job, and no release before minute l
pub record Releases (t : Jobs) (at : List ℕ) (set l : ℕ) (release : List ℕ) : Type 0 where
  pub low : (k : ℕ) → k < count_of t → l ≤ get_or release k 0
  pub each : (start : ℕ → ℕ) → Starting t at set l start → (k : ℕ) → k < count_of t → bit set k ≡ true → get_or release k 0 ≤ start k
