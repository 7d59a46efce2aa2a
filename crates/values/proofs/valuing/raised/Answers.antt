-- `values::valuing::raised` meets its contract.
use native.Mathlib.Omega.{arith}
use Prim.Native.Nat.{◌*◌, ◌≤◌}
use native.Mathlib.Nat.{mul-le-mul, div-le_self}
use Rattle.values.proofs.valuing.raised.Goals as goal

pub overflow_mul-more : goal.overflow_mul-more
overflow_mul-more c =
    let args = c.args in
    let fits = c.ranges in
    let product : args.share * args.by ≤ 4294967295 * 65535 =
    mul-le-mul {n₂ = 4294967295} {m₂ = 65535} (omega (arith, fits.share.fits)) (omega (arith, fits.by.fits)) in
    record { fits = omega arith }

pub overflow_add-more : goal.overflow_add-more
overflow_add-more c =
    let args = c.args in
    let fits = c.ranges in
    let product : args.share * args.by ≤ 4294967295 * 65535 =
    mul-le-mul {n₂ = 4294967295} {m₂ = 65535} (omega (arith, fits.share.fits)) (omega (arith, fits.by.fits)) in
    record { fits = omega (arith, div-le_self (args.share * args.by) args.parts, fits.share.fits) }
