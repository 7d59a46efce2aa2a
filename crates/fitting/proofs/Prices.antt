-- Values set one after another.
use mathlib.Core.Path.{◌≡◌, ◌∙◌}
use mathlib.Core.Logic.{◌⊎◌, inl, inr, ◌≢◌}
use mathlib.Core.Bool.{false}
use mathlib.Core.List.{List}
use Prim.Native.Nat.{ℕ, ◌≤◌, ◌<◌}
use native.Mathlib.Omega.{arith}
use lib.ListN.{length, get_or, set, replicate}
use lib.Seq.{get_or-set_same, get_or-set_other}
use Rattle.counting.proofs.Tests.{same_or_not}
use Rattle.figures.specs.Figures.{most_jobs}
use Rattle.bits.specs.Bits.{bit}
use Rattle.tables.specs.declared.Jobs.{Jobs}
use Rattle.tables.specs.Tables.{kept_at}
use Rattle.tables.proofs.Laws.{zeros}
use Rattle.fitting.specs.Fitting.{top_value, Valued, NoneBeside}

pub valued-none : (t : Jobs) (step set : ℕ) → Valued t step (replicate most_jobs 0) × NoneBeside set (replicate most_jobs 0)
valued-none t step set = (
  record { small = λ k. omega (arith, zeros most_jobs k); short = λ k l. omega (arith, zeros most_jobs k) },
  λ k b. omega (arith, zeros most_jobs k),
)

-- one job's value set
pub valued_more : {t : Jobs} {step : ℕ} {value : List ℕ} (jobs : ℕ) → Valued t step value × NoneBeside jobs value → (k v : ℕ) → k < length value
    → v ≤ top_value → (kept_at t k < step → v ≡ 0) → (bit jobs k ≡ false → v ≡ 0)
    → Valued t step (set value k v) × NoneBeside jobs (set value k v)
valued_more {t} {step} {value} jobs h k v l low short placed = (
  record { small = λ p. small p (same_or_not p k); short = λ p m. each p (h.0.short p m) (λ e. short (rw e at m)) (same_or_not p k) },
  λ p b. each p (h.1 p b) (λ e. placed (rw e at b)) (same_or_not p k),
)
  where
    small : (p : ℕ) → (p ≡ k) ⊎ (p ≢ k) → get_or (set value k v) p 0 ≤ top_value
    small p (inl e) = rw e (omega (arith, get_or-set_same value k v 0 l))
    small p (inr d) = omega (arith, get_or-set_other value k p v 0 d, h.0.small p)

    each : (p : ℕ) → get_or value p 0 ≡ 0 → (p ≡ k → v ≡ 0) → (p ≡ k) ⊎ (p ≢ k) → get_or (set value k v) p 0 ≡ 0
    each p old new (inl e) = rw e (get_or-set_same value k v 0 l ∙ new e)
    each p old new (inr d) = get_or-set_other value k p v 0 d ∙ old
