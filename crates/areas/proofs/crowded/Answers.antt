-- `areas::crowded` meets its contract.
use Prim.Native.Nat.{◌+◌, ◌*◌, ◌<◌}
use native.Mathlib.Omega.{arith}
use native.Mathlib.Nat.{mul-le-mul_right}
use borrow.Author.Tests.{ltb-true}
use Rattle.areas.proofs.crowded.Goals as goal

pub overflow_mul-result : goal.overflow_mul-result
overflow_mul-result c =
    let f = mul-le-mul_right c.args.close c.requires.1.1 in
    record { fits = omega (arith, c.ranges.close.fits) }

pub overflow_mul-result-2 : goal.overflow_mul-result-2
overflow_mul-result-2 c =
    let f = mul-le-mul_right c.args.l c.requires.1.1 in
    record { fits = omega (arith, c.ranges.l.fits) }

pub overflow_add-result : goal.overflow_add-result
overflow_add-result c =
    let pre = c.requires in
    record { fits = omega (arith, c.held_after.ensures, pre.0.small, pre.1.0) }

pub overflow_add-result-2 : goal.overflow_add-result-2
overflow_add-result-2 c =
    let pre = c.requires in
    let f = mul-le-mul_right c.args.l pre.1.1 in
    record { fits = omega (arith, c.ranges.l.fits, c.held_after.ensures, pre.0.small, pre.1.0) }

pub returns : goal.returns
returns c =
    let a = c.args in
    let held = c.held_after in
    λ e.
    let f : a.modules * a.close < a.modules * a.l + (held.result + c.args.part.now.left) = ltb-true _ _ e in
    omega (arith, held.ensures)
