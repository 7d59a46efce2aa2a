-- `values::weighing::multiple` meets its contract.
use native.Mathlib.Omega.{arith}
use Prim.Native.Nat.{◌*◌, ◌≤◌}
use native.Mathlib.Nat.{mul-le-mul}
use Rattle.values.specs.Values.{most_total}
use Rattle.values.proofs.weighing.multiple.Goals as goal

pub overflow_mul-result : goal.overflow_mul-result
overflow_mul-result c =
    let args = c.args in
    let pre = c.requires in
    let fits = c.ranges in
    let product : args.x * args.by ≤ most_total * 65535 =
    mul-le-mul {n₂ = most_total} {m₂ = 65535} pre (omega (arith, fits.by.fits)) in
    record { fits = omega arith }
