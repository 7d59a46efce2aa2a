-- `starting::first_end` meets its contract.
use mathlib.Core.Path.{refl}
use mathlib.Core.Logic.{inl}
use native.Mathlib.Omega.{arith}
use native.Mathlib.Nat.{pos_of_ne-zero}
use Rattle.bits.proofs.Walks.{walk_first, walk_next, walk_less}
use Rattle.starting.proofs.Sifting.{or_ends}
use Rattle.starting.proofs.first_end.Goals as goal

pub below-requires : goal.below-requires
below-requires c = omega (arith, c.requires, c.count.ensures)

pub loop-j-init : goal.loop-j-init
loop-j-init c = (rw (c.into_iter-j-iterator.ensures.into_iter_gives, c.members-j-items.ensures, c.below.ensures, c.count.ensures) (walk_first _ _), inl refl)

pub offset_bounds-at-j : goal.offset_bounds-at-j
offset_bounds-at-j c = record { fits = omega (arith, c.in-Some.ensures.steps.0) }

pub bounds-at-j : goal.bounds-at-j
bounds-at-j c =
    let head = c in
    omega (arith, head.loop-j.invariant.0.below _ c.in-Some.ensures.steps.1, head.requires)

pub or_ends-r-requires : goal.or_ends-r-requires
or_ends-r-requires c =
    let head = c in
    omega (arith, head.loop-j.invariant.0.below _ c.in-Some.ensures.steps.1, head.requires)

pub loop-j-preserved : goal.loop-j-preserved
loop-j-preserved c =
    let head = c in
    let a = head.args in
    let loop = head.loop-j in (
      rw (c.in-Some.ensures.steps.3) (walk_next _ loop.invariant.0),
      rw c.or_ends-r.ensures
          (or_ends a.jobs.now a.at.now c.in-Some.j loop.r (loop.invariant.0.below _ c.in-Some.ensures.steps.1) loop.invariant.1),
    )

pub returns : goal.returns
returns c = c.loop-j.invariant.1
