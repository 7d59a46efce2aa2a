-- `sums::served_behind` meets its contract.
use mathlib.Core.Path.{refl}
use native.Mathlib.Omega.{arith}
use Rattle.sums.proofs.Serving.{serving_start, serving_fits, serving-step, serving_all}
use Rattle.sums.proofs.served_behind.Goals as goal

pub loop-i-init : goal.loop-i-init
loop-i-init c = (refl, serving_start c.requires.0 (omega (arith, c.ranges.close.fits)))

pub overflow_add-total : goal.overflow_add-total
overflow_add-total c =
    let loop = c.loop-i in
    let serving = loop.invariant.1 in
    let most = serving_fits serving (omega (arith, loop.invariant.0, c.loop-i-test.true)) in
    let reach = c.reach_from-reach.ensures in
    let product = rw (reach) at c.times-total.ensures in
    record { fits = omega (arith, most, product, serving.small, serving.inside, serving.held.few) }

pub loop-i-preserved : goal.loop-i-preserved
loop-i-preserved c =
    let loop = c.loop-i in
    let loop-test = c.loop-i-test in
    let serving = loop.invariant.1 in
    let reach = c.reach_from-reach.ensures in
    let product = rw (reach) at c.times-total.ensures in
    (loop.invariant.0, rw product (serving-step serving (omega (arith, loop.invariant.0, loop-test.true))))

pub returns : goal.returns
returns c =
    let loop = c.loop-i in
    let serving = loop.invariant.1 in (
      serving_all serving (omega (arith, loop.invariant.0, c.loop-i-test.false)),
      omega (arith, serving.small, serving.inside, serving.held.few),
    )
