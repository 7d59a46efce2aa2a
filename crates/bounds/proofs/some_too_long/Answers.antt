-- `bounds::some_too_long` meets its contract.
use mathlib.Core.Path.{refl}
use mathlib.Core.Bool.{false}
use native.Mathlib.Omega.{arith}
use native.Mathlib.Nat.{pos_of_ne-zero}
use Rattle.counting.proofs.Tests.{clash}
use Rattle.bits.proofs.Walks.{walk_first, walk_next, walk_less}
use Rattle.bounds.proofs.some_too_long.Goals as goal

pub below-requires : goal.below-requires
below-requires c = omega (arith, c.requires)

pub loop-j-init : goal.loop-j-init
loop-j-init c = rw (c.into_iter-j-iterator.ensures.into_iter_gives, c.members-j-items.ensures, c.below.ensures) (walk_first _ _)

pub offset_bounds-at-j : goal.offset_bounds-at-j
offset_bounds-at-j c = record { fits = omega (arith, c.in-Some.ensures.steps.0) }

pub bounds-at-j : goal.bounds-at-j
bounds-at-j c = omega (arith, c.loop-j.invariant.below _ c.in-Some.ensures.steps.1, c.requires)

pub returns-then-too_long : goal.returns-then-too_long
returns-then-too_long c = λ e.
    let f = c.too_long.ensures c.if-too_long.true in
    (c.in-Some.j, c.loop-j.invariant.below _ c.in-Some.ensures.steps.1, f.0, f.1)

pub loop-j-preserved : goal.loop-j-preserved
loop-j-preserved c =
    let low = c.in-Some.ensures.steps in
    rw (c.in-Some.ensures.steps.3) (walk_next _ c.loop-j.invariant)

pub returns : goal.returns
returns c = λ e. clash false e refl
