-- `widths::sums_of` meets its contract.
use native.Mathlib.Omega.{arith}
use native.Mathlib.Nat.{pos_of_ne-zero}
use Rattle.bits.proofs.Walks.{walk_less}
use Rattle.widths.proofs.Sums.{summed-none, summed_more, summed_all}
use Rattle.widths.proofs.sums_of.Goals as goal

pub loop-j-init : goal.loop-j-init
loop-j-init c = rw (c.into_iter-j-iterator.ensures.into_iter_gives, c.members-j-items.ensures, c.below.ensures, c.count.ensures) (summed-none _ _)

pub need-requires : goal.need-requires
need-requires c =
    let inv = c.loop-j.invariant in
    let count = c in
    omega (arith, inv.walk.below _ c.in-Some.ensures.steps.1, count.requires.few)

pub loop-j-preserved : goal.loop-j-preserved
loop-j-preserved c =
    let need = c in
    let low = need.in-Some.ensures.steps in
    rw (c.in-Some.ensures.steps.3)
    (summed_more need.loop-j.invariant _ _ low.1 (rw need.need.ensures at c.with_width-sums.ensures))

pub returns : goal.returns
returns c = summed_all c.loop-j.invariant (omega (arith, c.in-None.ensures.steps.0))
