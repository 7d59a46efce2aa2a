-- How late a list plan of a fit table can end.
use mathlib.Core.Path.{◌≡◌}
use mathlib.Core.Bool.{true}
use mathlib.Core.List.{List}
use Prim.Native.Nat.{ℕ, ◌≤◌, ◌<◌}
use native.Mathlib.Omega.{arith}
use Rattle.figures.specs.Figures.{last_arrival, last_end}
use Rattle.schedule.specs.Plan.{finish}
use Rattle.schedule.specs.ListPlan.{no_jobs, Follows, part_of}
use Rattle.schedule.proofs.Horizon.{ends_within}
use Rattle.tables.specs.declared.Jobs.{Jobs}
use Rattle.tables.specs.Tables.{count_of, sheet_of, Fit}
use Rattle.tables.proofs.Laws.{all_minutes}

-- no job of it ends later than `last_end`
pub ends_short : (t : Jobs) → Fit t → (o : List ℕ) → Follows (sheet_of t) no_jobs o → (i : ℕ) → i < count_of t
    → (part_of (sheet_of t) o).placed i ≡ true → finish (sheet_of t) (part_of (sheet_of t) o).plan i ≤ last_end
ends_short t fit o f i l e =
    let h = ends_within (sheet_of t) fit.narrow last_arrival fit.arrived o f i l e in
    omega (arith, all_minutes t fit (omega arith))
