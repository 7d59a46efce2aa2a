-- `fitting::turning::cell` meets its contract.
use native.Mathlib.Omega.{arith}
use native.Mathlib.Nat.{mul-le-mul}
use Rattle.figures.specs.Figures.{most_jobs}
use Rattle.fitting.specs.Fitting.{cells}
use Rattle.fitting.proofs.turning.cell.Goals as goal

pub overflow_mul-place : goal.overflow_mul-place
overflow_mul-place c =
    let small = mul-le-mul {n₂ = most_jobs} {m₂ = cells} c.if-row-gt-MOST_JOBS.false c.if-cols-gt-CELLS.false in
    record { fits = omega (arith, small) }

pub overflow_add-place : goal.overflow_add-place
overflow_add-place c =
    let small = mul-le-mul {n₂ = most_jobs} {m₂ = cells} c.if-row-gt-MOST_JOBS.false c.if-cols-gt-CELLS.false in
    record { fits = omega (arith, small, c.if-x-gt-CELLS.false) }
