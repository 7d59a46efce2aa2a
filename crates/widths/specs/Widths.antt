-- Which sums the widths of some of the jobs that are left have, and how many of the free modules such jobs can fill. A width is the number
-- of modules that a job needs.
use Rattle.std.specs.Prelude.{◌≡◌, Bool, true, cond, List, ℕ, suc, ◌<◌, ltb}
use Rattle.counting.specs.Counting.{only, sum, largest}
use Rattle.bits.specs.Bits.{bit}
use Rattle.tables.specs.declared.Jobs.{Jobs}
use Rattle.tables.specs.Tables.{need_at, count_of}

-- the sums that one number has as members are those below 64
abbrev pub limit : ℕ
limit = 64

-- the widths of the jobs of X together
abbrev pub width_of : Jobs → (ℕ → Bool) → ℕ
width_of t X = sum (count_of t) (λ k. only (X k) (need_at t k))

-- whatever jobs of the set are taken, their width is a member of `sums`, if it is below the limit
pub record WidthsOf (t : Jobs) (set sums : ℕ) : Type 0 where
  pub each : (X : ℕ → Bool) → ((k : ℕ) → k < count_of t → X k ≡ true → bit set k ≡ true) → width_of t X < limit
      → bit sums (width_of t X) ≡ true

-- the most of f modules that are filled by a sum; all of them from the limit on
unfoldable pub filled_of : ℕ → ℕ → ℕ
filled_of sums f = cond (ltb f limit) (largest (suc f) (λ s. only (bit sums s) s)) f
