-- `job_sets::busiest` meets its contract.
use native.Mathlib.Nat.{pos_of_ne-zero}
use Rattle.bits.proofs.Walks.{walk_less}
use Rattle.job_sets.proofs.Choosing.{choosing_first, choosing_next}
use Rattle.job_sets.proofs.busiest.Goals as goal

pub loop-j-init : goal.loop-j-init
loop-j-init c =
    let low = c.lowest-best.ensures in
    rw (c.into_iter-j-iterator.ensures.into_iter_gives, c.members-j-items.ensures, c.without_lowest.ensures _ low.1 low.2)
    (choosing_first c.args.left c.requires.1 c.lowest-best.result low.1)

pub busier-best-requires : goal.busier-best-requires
busier-best-requires c =
    let inv = c.loop-j.invariant in
    (inv.low, inv.walk.below _ c.in-Some.ensures.steps.1)

pub loop-j-preserved : goal.loop-j-preserved
loop-j-preserved c =
    let inv = c.loop-j.invariant in
    rw (c.in-Some.ensures.steps.3) (choosing_next c.in-Some.j _ inv c.in-Some.ensures.steps.1 c.busier-best.ensures)

pub returns : goal.returns
returns c =
    let inv = c.loop-j.invariant in
    (inv.low, inv.member)
