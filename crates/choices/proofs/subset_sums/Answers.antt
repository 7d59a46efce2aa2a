-- `choices::subset_sums` meets its contract.
use mathlib.Core.Path.{refl, ◌∙◌}
use native.Mathlib.Omega.{arith}
use native.Mathlib.Nat.{pos_of_ne-zero}
use lib.ListN.{length-set}
use Rattle.bits.proofs.Walks.{walk_less}
use Rattle.tables.specs.Tables.{count_of}
use Rattle.tables.proofs.Laws.{kept_short}
use Rattle.choices.proofs.Choices.{summing-none, summing_to, summing-step, summing_all}
use Rattle.choices.proofs.subset_sums.Goals as goal

pub below-requires : goal.below-requires
below-requires c = omega (arith, c.count.ensures, c.requires.1.few)

pub loop-j-init : goal.loop-j-init
loop-j-init c =
    let a = c.args in
    let t = a.jobs.now in
    (rw (c.into_iter-j-iterator.ensures.into_iter_gives, c.members-j-items.ensures, c.below.ensures, c.count.ensures) (summing-none t a.set (count_of t) a.at.now c.requires.0), refl)

pub with_job-count-requires : goal.with_job-count-requires
with_job-count-requires c =
    let a = c.args in
    let t = a.jobs.now in
    let fit = c.requires.1 in
    let summing = c.loop-j.invariant.0 in
    let inside = summing.walk.below c.in-Some.j c.in-Some.ensures.steps.1 in (
      summing_to t a.set (count_of t) summing c.in-Some.j c.in-Some.ensures.steps.1 c.in-Some.ensures.steps.2,
      (omega (arith, inside, fit.few), kept_short t fit c.in-Some.j inside),
    )

pub loop-j-preserved : goal.loop-j-preserved
loop-j-preserved c =
    let past = c in
    let a = past.args in
    let t = a.jobs.now in
    let loop = c.loop-j in
    let low = c.in-Some.ensures.steps in
    let with-job = c.with_job-count in (
      rw (c.in-Some.ensures.steps.3)
          (summing-step t a.set (count_of t) loop.invariant.0 c.in-Some.j low.1 low.2 with-job.ensures),
      with-job.auto.at ∙ loop.invariant.1,
    )

pub shape_of-at : goal.shape_of-at
shape_of-at c = c.loop-j.invariant.1 ∙ length-set c.args.at.now 0 0

pub returns : goal.returns
returns c =
    let a = c.args in
    summing_all a.jobs.now a.set (count_of a.jobs.now) c.loop-j.invariant.0 c.in-None.ensures.steps.0
