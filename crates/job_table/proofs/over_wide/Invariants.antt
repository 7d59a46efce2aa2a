-- `job_table::over_wide` meets its contract.
use mathlib.Core.Bool.{Bool, false}
use mathlib.Core.List.{List}
use mathlib.Core.Path.{◌≡◌}
use Prim.Native.Nat.{ℕ}
use lib.Dec.{ltb}
use Rattle.counting.specs.Counting.{any}
use Rattle.tables.specs.declared.Jobs.{Jobs}
use Rattle.tables.specs.Tables.{need_at, modules_of}
use Rattle.job_table.proofs.over_wide.Given as goal

-- whether a job is too wide
abbrev pub wide : Jobs → ℕ → Bool
wide t j = ltb (modules_of t) (need_at t j)

abbrev pub invariant-loop-j : goal.invariant-loop-j
invariant-loop-j l = any l.j (wide l.jobs) ≡ false
