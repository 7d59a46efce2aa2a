-- `overlaps::all_hold` meets its contract.
use mathlib.Core.Path.{refl}
use native.Mathlib.Omega.{arith}
use native.Mathlib.Nat.{pos_of_ne-zero}
use Rattle.figures.specs.Figures.{most_modules}
use Rattle.bits.proofs.Walks.{walk_first, walk_next, walk_less}
use Rattle.bits.proofs.Weighing.{weighed-none, weighed_more, weighed_small, weighed_all}
use Rattle.tables.specs.Tables.{count_of}
use Rattle.overlaps.proofs.Laws.{hold_small}
use Rattle.overlaps.proofs.all_hold.Goals as goal

pub below-requires : goal.below-requires
below-requires c = omega (arith, c.count.ensures, c.requires.few)

pub loop-k-init : goal.loop-k-init
loop-k-init c =
    let args = c.args in
    rw (c.into_iter-k-iterator.ensures.into_iter_gives, c.members-k-items.ensures, c.below.ensures, c.count.ensures)
    (walk_first (count_of args.jobs.now) args.set, weighed-none args.set (count_of args.jobs.now) _ 0 refl)

pub need-requires : goal.need-requires
need-requires c = omega (arith, c.requires.few, c.loop-k.invariant.0.below c.in-Some.k c.in-Some.ensures.steps.1)

pub kept-requires : goal.kept-requires
kept-requires c =
    omega (arith, c.requires.few, c.loop-k.invariant.0.below c.in-Some.k c.in-Some.ensures.steps.1)

pub first_start-requires : goal.first_start-requires
first_start-requires c =
    omega (arith, c.requires.few, c.loop-k.invariant.0.below c.in-Some.k c.in-Some.ensures.steps.1)

pub overflow_add-total : goal.overflow_add-total
overflow_add-total c =
    let loop = c.loop-k in
    let start = c in
    let a = start.args in
    let inside = loop.invariant.0.below c.in-Some.k c.in-Some.ensures.steps.1 in
    let small = weighed_small loop.invariant.1 c.in-Some.k inside c.in-Some.ensures.steps.1 most_modules
    (hold_small start.requires a.prepared.now a.l a.target a.m) in
    let held = rw (c.need.ensures, c.kept.ensures, c.first_start.ensures) at c.must_hold-total.ensures in
    record { fits = omega (arith, held, start.requires.few, small) }

pub loop-k-preserved : goal.loop-k-preserved
loop-k-preserved c =
    let loop = c.loop-k in
    let member = c.in-Some.ensures.steps.1 in
    let inside = loop.invariant.0.below c.in-Some.k member in
    rw (c.in-Some.ensures.steps.3, c.must_hold-total.ensures, c.need.ensures, c.kept.ensures, c.first_start.ensures)
    (walk_next c.in-Some.k loop.invariant.0, weighed_more loop.invariant.1 c.in-Some.k inside member)

pub returns : goal.returns
returns c = weighed_all c.loop-k.invariant.1 (omega (arith, c.in-None.ensures.steps.0))
