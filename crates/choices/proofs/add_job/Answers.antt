-- `choices::add_job` meets its contract.
use native.Mathlib.Omega.{arith}
use Rattle.choices.proofs.Choices.{doubling-none, doubling_fits, doubling-step, doubling_all}
use Rattle.choices.proofs.add_job.Goals as goal

pub loop-i-init : goal.loop-i-init
loop-i-init c = doubling-none c.requires

pub overflow_add-at : goal.overflow_add-at
overflow_add-at c =
    let loop = c.loop-i in
    let loop-test = c.loop-i-test in
    let most = doubling_fits loop.invariant loop-test.true in record { fits = omega arith }

pub loop-i-preserved : goal.loop-i-preserved
loop-i-preserved c =
    let loop = c.loop-i in
    let loop-test = c.loop-i-test in
    doubling-step loop.invariant loop-test.true

pub shape_of-at : goal.shape_of-at
shape_of-at c = c.loop-i.invariant.size

pub returns : goal.returns
returns c =
    let loop = c.loop-i in
    doubling_all loop.invariant c.loop-i-test.false
