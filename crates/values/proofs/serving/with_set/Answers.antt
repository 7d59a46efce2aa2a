-- `values::serving::with_set` meets its contract.
use native.Mathlib.Omega.{arith}
use Prim.Native.Nat.{◌-◌}
use Rattle.values.proofs.serving.with_set.Goals as goal

pub overflow_add-more : goal.overflow_add-more
overflow_add-more c =
    let pre = c.requires in
    let loop = c.loop-x in
    let args = c.args in
    record { fits = omega (arith, pre.0 (loop.x - args.width)) }
