-- `values::steps` meets its contract.
use native.Mathlib.Omega.{arith}
use mathlib.Core.Path.{sym}
use native.Mathlib.Nat.{div-one, div-le_self}
use Rattle.values.proofs.steps.Goals as goal

pub returns-then-step-eq1 : goal.returns-then-step-eq1
returns-then-step-eq1 c =
    let args = c.args in
    rw c.if-step-eq1.true (sym (div-one args.minutes))

pub overflow_cast-result-3 : goal.overflow_cast-result-3
overflow_cast-result-3 c =
    let args = c.args in
    let fits = c.ranges in
    record { fits = omega (arith, div-le_self args.minutes args.step, fits.minutes.fits) }
