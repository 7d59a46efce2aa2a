-- `weights::most_with` meets its contract.
use native.Mathlib.Omega.{arith}
use Prim.Native.Nat.{◌-◌}
use borrow.Author.Tests.{le-leb, lt-leb}
use Rattle.weights.specs.Weights.{most_with}
use Rattle.weights.proofs.most_with.Goals as goal

pub returns-then-x-width : goal.returns-then-x-width
unfolding most_with
returns-then-x-width c =
    let args = c.args in
    rw (lt-leb args.width args.x c.if-x-width.true) (omega arith)

pub overflow_add-with : goal.overflow_add-with
overflow_add-with c =
    let pre = c.requires in
    let args = c.args in
    record { fits = omega (arith, pre.0 (args.x - args.width)) }

pub returns-then-with-without : goal.returns-then-with-without
unfolding most_with
returns-then-with-without c =
    let args = c.args in
    let if1 = c.if-x-width in
    rw (le-leb args.width args.x if1.false) (omega (arith, c.if-with-without.true))

pub returns : goal.returns
unfolding most_with
returns c =
    let args = c.args in
    let if1 = c.if-x-width in
    rw (le-leb args.width args.x if1.false) (omega (arith, c.if-with-without.false))
