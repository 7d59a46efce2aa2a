-- `branching::left_behind` meets its contract.
use native.Mathlib.Omega.{arith}
use native.Mathlib.Nat.{pos_of_ne-zero}
use Rattle.bits.proofs.Walks.{walk_less}
use Rattle.branching.proofs.Blocks.{awaiting-none, awaiting-step, awaiting_all}
use Rattle.branching.proofs.left_behind.Goals as goal

pub below-requires : goal.below-requires
below-requires c = omega (arith, c.requires, c.count.ensures)

pub loop-x-init : goal.loop-x-init
loop-x-init c = rw (c.into_iter-x-iterator.ensures.into_iter_gives, c.members-x-items.ensures, c.below.ensures, c.count.ensures) (awaiting-none _ _)

pub earlier-awaited-requires : goal.earlier-awaited-requires
earlier-awaited-requires c =
    let head = c in
    omega (arith, head.loop-x.invariant.walk.below _ c.in-Some.ensures.steps.1, head.requires)

pub arrival-requires : goal.arrival-requires
arrival-requires c =
    let head = c in
    omega (arith, head.loop-x.invariant.walk.below _ c.in-Some.ensures.steps.1, head.requires)

pub loop-x-preserved : goal.loop-x-preserved
loop-x-preserved c =
    let inv = c.loop-x.invariant in
    rw (c.in-Some.ensures.steps.3, c.earlier-awaited.ensures, c.max-arrived.ensures, c.arrival.ensures) (awaiting-step c.in-Some.x inv)

pub returns : goal.returns
returns c = awaiting_all c.loop-x.invariant c.in-None.ensures.steps.0
