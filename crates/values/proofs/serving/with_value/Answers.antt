-- `values::serving::with_value` meets its contract.
use native.Mathlib.Omega.{arith}
use borrow.Author.Rules.{rules}
use mathlib.Core.Path.{◌∙◌, sym}
use Prim.Native.Nat.{◌-◌}
use Rattle.weights.proofs.Puts.{put_more, put_first}
use Rattle.weights.proofs.Knapsack.{most_with_wide}
use Rattle.values.proofs.Laws.{put_narrow}
use Rattle.values.proofs.serving.with_value.Goals as goal

pub loop-x-init : goal.loop-x-init
loop-x-init c = (search rules, put_narrow _ _ _)

pub overflow_add-value : goal.overflow_add-value
overflow_add-value c =
    let pre = c.requires in
    let loop = c.loop-x in
    let args = c.args in
    record { fits = omega (arith, pre.1.0 (loop.x - args.width)) }

pub loop-x-preserved : goal.loop-x-preserved
loop-x-preserved c =
    let loop = c.loop-x in
    let larger = c.max in
    let args = c.args in
    let pre = c.requires in
    let loop-test = c.loop-x-test in
    let x = loop.x in
    let value = larger.ensures ∙ sym (most_with_wide args.old.now args.width args.value x loop.invariant.0) in
    (search rules, put_more loop.invariant.1 _ (λ i m e. omega arith) (omega (arith, pre.0, loop-test.true)) value)

pub returns : goal.returns
returns c =
    let loop = c.loop-x in
    let pre = c.requires in
    let loop-test = c.loop-x-test in
    put_first loop.invariant.1 (omega (arith, pre.0)) loop-test.false
