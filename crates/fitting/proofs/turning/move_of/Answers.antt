-- `fitting::turning::move_of` meets its contract.
use native.Mathlib.Omega.{arith}
use native.Mathlib.Nat.{mul-le-mul, le_trans, div-le_self}
use Prim.Native.Nat.{◌*◌, ◌≤◌}
use Rattle.fitting.proofs.turning.move_of.Goals as goal

pub overflow_mul-result : goal.overflow_mul-result
overflow_mul-result c =
    let a : c.args.gap ≤ 4294967296 = omega (arith, c.ranges.gap) in
    let b : c.args.difference ≤ 65536 = omega (arith, c.ranges.difference) in
    record { fits = omega (arith, mul-le-mul a b) }

pub overflow_mul-result-2 : goal.overflow_mul-result-2
overflow_mul-result-2 c =
    let a : c.args.gap ≤ 4294967296 = omega (arith, c.ranges.gap) in
    let b : c.args.difference ≤ 65536 = omega (arith, c.ranges.difference) in
    record { fits = omega (arith, mul-le-mul a b) }

pub returns : goal.returns
returns c =
    let a : c.args.gap ≤ 4294967296 = omega (arith, c.ranges.gap) in
    let b : c.args.difference ≤ 65536 = omega (arith, c.ranges.difference) in
    le_trans (div-le_self (c.args.gap * c.args.difference * 24) c.args.squares) (omega (arith, mul-le-mul a b))
