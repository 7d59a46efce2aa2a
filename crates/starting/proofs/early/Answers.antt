-- `starting::early` meets its contract.
use native.Mathlib.Omega.{arith}
use native.Mathlib.Nat.{pos_of_ne-zero}
use Rattle.bits.proofs.Walks.{walk_less}
use Rattle.starting.proofs.Sifting.{sifting-none, sifting-step, sifting_all}
use Rattle.starting.proofs.early.Goals as goal

pub below-requires : goal.below-requires
below-requires c = omega (arith, c.requires)

pub loop-j-init : goal.loop-j-init
loop-j-init c =
    let a = c.args in
    rw (c.into_iter-j-iterator.ensures.into_iter_gives, c.members-j-items.ensures, c.below.ensures) (sifting-none a.at.now a.end a.set a.count)

pub offset_bounds-at-j : goal.offset_bounds-at-j
offset_bounds-at-j c = record { fits = omega (arith, c.in-Some.ensures.steps.0) }

pub bounds-at-j : goal.bounds-at-j
bounds-at-j c = omega (arith, c.loop-j.invariant.walk.below _ c.in-Some.ensures.steps.1, c.requires)

pub with_early-r-requires : goal.with_early-r-requires
with_early-r-requires c =
    let head = c in
    omega (arith, head.loop-j.invariant.walk.below _ c.in-Some.ensures.steps.1, head.requires)

pub loop-j-preserved : goal.loop-j-preserved
loop-j-preserved c =
    let head = c in
    let a = head.args in
    let loop = head.loop-j in
    rw (c.in-Some.ensures.steps.3, c.with_early-r.ensures)
    (sifting-step a.at.now a.end a.set a.count loop.r loop.j-iterator.left c.in-Some.j loop.invariant)

pub returns : goal.returns
returns c =
    let a = c.args in
    let loop = c.loop-j in
    sifting_all a.at.now a.end a.set a.count loop.r loop.j-iterator.left loop.invariant c.in-None.ensures.steps.0
