-- `lanes::set_worth` meets its contract.
use mathlib.Core.Path.{refl}
use native.Mathlib.Omega.{arith}
use native.Mathlib.Nat.{pos_of_ne-zero}
use Rattle.bits.proofs.Walks.{walk_first, walk_next, walk_less}
use Rattle.bits.proofs.Weighing.{weighed-none, weighed_more, weighed_small, weighed_all}
use Rattle.tables.specs.Tables.{count_of}
use Rattle.values.specs.Values.{most_lane_worth}
use Rattle.lanes.proofs.set_worth.Goals as goal

pub below-requires : goal.below-requires
below-requires c = omega (arith, c.count.ensures, c.requires.0)

pub loop-k-init : goal.loop-k-init
loop-k-init c =
    let count = c.count in
    let args = c.args in
    let set = args.part.now.unplaced in
    let jobs = count_of args.jobs.now in
    rw (c.into_iter-k-iterator.ensures.into_iter_gives, c.members-k-items.ensures, c.below.ensures, count.ensures) (walk_first jobs set, weighed-none set jobs _ 0 refl)

pub worth_of-total-requires : goal.worth_of-total-requires
worth_of-total-requires c =
    let loop = c.loop-k in
    let pre = c.requires in
    omega (arith, pre.0, loop.invariant.0.below c.in-Some.k c.in-Some.ensures.steps.1)

pub overflow_add-total : goal.overflow_add-total
overflow_add-total c =
    let pre = c.requires in
    let loop = c.loop-k in
    let k = c.in-Some.k in
    let member = c.in-Some.ensures.steps.1 in
    let low = loop.invariant.0.below k member in
    record {
      fits = omega (
        arith,
        c.worth_of-total.ensures,
        pre.0,
        weighed_small loop.invariant.1 k low member most_lane_worth (λ i m. pre.1 i (omega (arith, pre.0))),
      );
    }

pub loop-k-preserved : goal.loop-k-preserved
loop-k-preserved c =
    let loop = c.loop-k in
    let k = c.in-Some.k in
    let low = c.in-Some.ensures.steps in
    rw (c.in-Some.ensures.steps.3, c.worth_of-total.ensures)
    (walk_next k loop.invariant.0, weighed_more loop.invariant.1 k (loop.invariant.0.below k low.1) low.1)

pub returns : goal.returns
returns c = weighed_all c.loop-k.invariant.1 (omega (arith, c.in-None.ensures.steps.0))
