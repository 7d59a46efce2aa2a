-- `weights::set_worth` meets its contract.
use native.Mathlib.Omega.{arith}
use native.Mathlib.Nat.{pos_of_ne-zero}
use Prim.Native.Nat.{◌+◌, ◌*◌}
use Rattle.bits.proofs.Walks.{walk_first, walk_next, walk_less}
use Rattle.bits.proofs.Weighing.{weighed-none, weighed_more, weighed_small, weighed_all}
use Rattle.tables.specs.Tables.{count_of}
use Rattle.tables.proofs.Laws.{zeros}
use Rattle.weights.specs.Weights.{weightings, most_worth}
use Rattle.weights.proofs.set_worth.Goals as goal

pub below-requires : goal.below-requires
below-requires c = omega (arith, c.count.ensures, c.requires.0)

pub loop-k-init : goal.loop-k-init
loop-k-init c =
    let set = c.args.part.now.unplaced in
    let jobs = count_of c.args.jobs.now in
    rw (c.into_iter-k-iterator.ensures.into_iter_gives, c.members-k-items.ensures, c.below.ensures, c.count.ensures)
    (walk_first jobs set, λ q l. weighed-none set jobs _ _ (zeros weightings q))

pub with_worth-weight-requires : goal.with_worth-weight-requires
with_worth-weight-requires c =
    let loop = c.loop-k in
    let pre = c.requires in
    let k = c.in-Some.k in
    let member = c.in-Some.ensures.steps.1 in
    let low = loop.invariant.0.below k member in (
      omega (arith, pre.0),
      λ q l. omega (
        arith,
        pre.0,
        weighed_small (loop.invariant.1 q l) k low member most_worth (λ i m. pre.1 (i * weightings + q) (omega (arith, pre.0))),
      ),
    )

pub loop-k-preserved : goal.loop-k-preserved
loop-k-preserved c =
    let loop = c.loop-k in
    let k = c.in-Some.k in
    let low = c.in-Some.ensures.steps in
    rw (c.in-Some.ensures.steps.3) (
      walk_next k loop.invariant.0,
      λ q l. rw (c.with_worth-weight.ensures q l) (weighed_more (loop.invariant.1 q l) k (loop.invariant.0.below k low.1) low.1),
    )

pub returns : goal.returns
returns c =
    λ q l. weighed_all (c.loop-k.invariant.1 q l) (omega (arith, c.in-None.ensures.steps.0))
