-- `areas::held_after` meets its contract.
use mathlib.Core.Path.{◌≡◌, refl, ap, ◌∙◌}
use Prim.Native.Nat.{ℕ, ◌<◌}
use native.Mathlib.Omega.{arith}
use Rattle.placement.specs.Profile.{held_after}
use Rattle.areas.proofs.Summing.{summing_start, summing_fits, summing-step}
use Rattle.areas.proofs.held_after.Goals as goal

pub loop-i-init : goal.loop-i-init
loop-i-init c = (refl, summing_start c.requires)

pub overflow_add-total : goal.overflow_add-total
overflow_add-total c =
    let loop = c.loop-i in
    let fits = summing_fits loop.invariant.1 (omega (arith, loop.invariant.0, c.loop-i-test.true)) in
    record { fits = omega (arith, c.stretch-total.ensures) }

pub loop-i-preserved : goal.loop-i-preserved
loop-i-preserved c =
    let loop = c.loop-i in
    let inside : loop.i < c.args.part.now.placed = omega (arith, loop.invariant.0, c.loop-i-test.true) in
    (loop.invariant.0, rw (c.stretch-total.ensures) (summing-step loop.invariant.1 inside))

pub returns : goal.returns
returns c =
    let a = c.args in
    let p = a.part.now in
    let e : c.loop-i.i ≡ p.placed = omega (arith, c.loop-i.invariant.0, c.loop-i.invariant.1.inside, c.loop-i-test.false) in
    c.loop-i.invariant.1.total_is ∙ ap (λ (n : ℕ). held_after p.until p.held n a.l) e
