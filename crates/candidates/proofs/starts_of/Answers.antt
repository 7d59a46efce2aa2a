-- `candidates::starts_of` meets its contract.
use native.Mathlib.Omega.{arith}
use native.Mathlib.Nat.{pos_of_ne-zero}
use Rattle.bits.proofs.Walks.{walk_less}
use Rattle.candidates.proofs.Starting.{starting-none, starting-step, starting_all}
use Rattle.candidates.proofs.starts_of.Goals as goal

pub below-requires : goal.below-requires
below-requires c = omega (arith, c.count.ensures, c.requires.fit.few)

pub loop-j-init : goal.loop-j-init
loop-j-init c =
    let pre = c.requires in
    (pre, rw (c.into_iter-j-iterator.ensures.into_iter_gives, c.members-j-items.ensures, c.below.ensures, c.count.ensures) (starting-none (pre)))

pub next_start-s-requires : goal.next_start-s-requires
next_start-s-requires c =
    let loop = c.loop-j in
    let known = loop.invariant.0 in
    let walk = loop.invariant.1.walk in
    let low = c.in-Some.ensures.steps.1 in
    (known, (walk.below _ low, walk.inside _ low))

pub offset_bounds-at-j : goal.offset_bounds-at-j
offset_bounds-at-j c = record { fits = omega (arith, c.in-Some.ensures.steps.0) }

pub bounds-at-j : goal.bounds-at-j
bounds-at-j c =
    let loop = c.loop-j in
    omega (arith, loop.invariant.1.walk.below _ c.in-Some.ensures.steps.1, loop.invariant.0.fit.few)

pub loop-j-preserved : goal.loop-j-preserved
loop-j-preserved c =
    let next_start = c.next_start-s in
    let low = c.in-Some.ensures.steps in
    let loop = c.loop-j in (
      loop.invariant.0,
      rw (c.min-least.ensures, c.in-Some.ensures.steps.3)
          (starting-step loop.invariant.0 loop.at loop.least loop.j-iterator.left c.in-Some.j next_start.result loop.invariant.1 low.1
          next_start.ensures),
    )

pub returns : goal.returns
returns c =
    let loop = c.loop-j in
    starting_all loop.invariant.0 loop.at loop.least loop.j-iterator.left loop.invariant.1 c.in-None.ensures.steps.0
