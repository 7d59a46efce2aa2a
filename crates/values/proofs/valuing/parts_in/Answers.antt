-- `values::valuing::parts_in` meets its contract.
use native.Mathlib.Omega.{arith}
use Prim.Native.Nat.{◌+◌, ◌*◌, ◌/◌, ◌≤◌}
use native.Mathlib.Nat.{mul-le-mul}
use Rattle.values.proofs.valuing.parts_in.Goals as goal

pub overflow_mul-parts : goal.overflow_mul-parts
overflow_mul-parts c =
    let args = c.args in
    let fits = c.ranges in
    let pre = c.requires in
    let product : args.most * (2 + args.round / 4) ≤ 65535 * 27 =
    mul-le-mul {n₂ = 65535} {m₂ = 27} (omega (arith, fits.most.fits)) (omega (arith, pre)) in
    record { fits = omega arith }
