-- `values::last_step` meets its contract.
use native.Mathlib.Omega.{arith}
use Prim.Native.Nat.{◌-◌}
use native.Mathlib.Nat.{div-lt_iff_lt-mul}
use Rattle.values.specs.Values.{steps}
use Rattle.values.proofs.last_step.Goals as goal

pub overflow_cast-result : goal.overflow_cast-result
overflow_cast-result c =
    let args = c.args in
    let pre = c.requires in
    let low = (div-lt_iff_lt-mul {k = args.step} {x = args.end - 1} {y = steps} (omega (arith, pre))).1 (omega (arith, pre)) in
    record { fits = omega arith }

pub returns : goal.returns
returns c =
    let args = c.args in
    let pre = c.requires in
    (div-lt_iff_lt-mul {k = args.step} {x = args.end - 1} {y = steps} (omega (arith, pre))).1 (omega (arith, pre))
