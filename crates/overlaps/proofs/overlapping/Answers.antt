-- `overlaps::overlapping` meets its contract.
use mathlib.Core.Path.{refl}
use mathlib.Core.Bool.{false}
use native.Mathlib.Omega.{arith}
use native.Mathlib.Nat.{pos_of_ne-zero}
use Rattle.counting.proofs.Tests.{clash}
use Rattle.bits.proofs.Walks.{walk_first, walk_next, walk_less}
use Rattle.overlaps.proofs.overlapping.Goals as goal

pub below-requires : goal.below-requires
below-requires c = omega (arith, c.count.ensures, c.requires.0.few)

pub loop-k-init : goal.loop-k-init
loop-k-init c = rw (c.into_iter-k-iterator.ensures.into_iter_gives, c.members-k-items.ensures, c.below.ensures, c.count.ensures) (walk_first _ _)

pub no_room_for-requires : goal.no_room_for-requires
no_room_for-requires c =
    let pre = c.requires in
    (pre.0, (pre.1, omega (arith, c.loop-k.invariant.below _ c.in-Some.ensures.steps.1, pre.0.few)))

pub returns-then-no_room_for : goal.returns-then-no_room_for
returns-then-no_room_for c = λ e. c.no_room_for.ensures c.if-no_room_for.true

pub loop-k-preserved : goal.loop-k-preserved
loop-k-preserved c =
    let low = c.in-Some.ensures.steps in
    rw (c.in-Some.ensures.steps.3) (walk_next _ c.loop-k.invariant)

pub returns : goal.returns
returns c = λ e. clash false e refl
