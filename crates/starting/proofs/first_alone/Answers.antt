-- `starting::first_alone` meets its contract.
use native.Mathlib.Omega.{arith}
use native.Mathlib.Nat.{pos_of_ne-zero}
use Rattle.bits.proofs.Walks.{walk_first, walk_next, walk_less}
use Rattle.starting.proofs.first_alone.Goals as goal

pub below-requires : goal.below-requires
below-requires c = omega (arith, c.requires)

pub loop-i-init : goal.loop-i-init
loop-i-init c = rw (c.into_iter-i-iterator.ensures.into_iter_gives, c.members-i-items.ensures, c.below.ensures) (walk_first _ _)

pub offset_bounds-at-i : goal.offset_bounds-at-i
offset_bounds-at-i c = record { fits = omega (arith, c.in-Some.ensures.steps.0) }

pub bounds-at-i : goal.bounds-at-i
bounds-at-i c = omega (arith, c.loop-i.invariant.below _ c.in-Some.ensures.steps.1, c.requires)

pub alone_at-requires : goal.alone_at-requires
alone_at-requires c =
    let head = c in
    omega (arith, head.loop-i.invariant.below _ c.in-Some.ensures.steps.1, head.requires)

pub returns-then-alone_at : goal.returns-then-alone_at
returns-then-alone_at c = λ l. c.alone_at.ensures c.if-alone_at.true

pub loop-i-preserved : goal.loop-i-preserved
loop-i-preserved c =
    let low = c.in-Some.ensures.steps in
    rw (c.in-Some.ensures.steps.3) (walk_next _ c.loop-i.invariant)

pub returns : goal.returns
returns c = λ l. absurd (omega arith)
