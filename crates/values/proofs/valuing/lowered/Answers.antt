-- `values::valuing::lowered` meets its contract.
use native.Mathlib.Omega.{arith}
use Prim.Native.Nat.{◌*◌, ◌≤◌}
use native.Mathlib.Nat.{mul-le-mul}
use Rattle.values.proofs.valuing.lowered.Goals as goal

pub overflow_mul-less : goal.overflow_mul-less
overflow_mul-less c =
    let args = c.args in
    let fits = c.ranges in
    let product : args.share * args.by ≤ 4294967295 * 65535 =
    mul-le-mul {n₂ = 4294967295} {m₂ = 65535} (omega (arith, fits.share.fits)) (omega (arith, fits.by.fits)) in
    record { fits = omega arith }
