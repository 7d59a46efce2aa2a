-- `releases::ended` meets its contract.
use native.Mathlib.Omega.{arith}
use native.Mathlib.Nat.{pos_of_ne-zero}
use Rattle.bits.proofs.Walks.{walk_less}
use Rattle.releases.proofs.Laws.{ending-none, ending_more}
use Rattle.releases.proofs.ended.Goals as goal

pub loop-i-init : goal.loop-i-init
loop-i-init c =
    rw (c.into_iter-i-iterator.ensures.into_iter_gives, c.members-i-items.ensures) (ending-none _ _ _)

pub offset_bounds-release-i : goal.offset_bounds-release-i
offset_bounds-release-i c =
    let inv = c.loop-i.invariant in
    record { fits = omega (arith, c.requires _ (inv.inside _ c.in-Some.ensures.steps.1)) }

pub bounds-release-i : goal.bounds-release-i
bounds-release-i c =
    let inv = c.loop-i.invariant in
    omega (arith, c.requires _ (inv.inside _ c.in-Some.ensures.steps.1))

pub minutes-requires : goal.minutes-requires
minutes-requires c =
    let inv = c.loop-i.invariant in
    omega (arith, c.requires _ (inv.inside _ c.in-Some.ensures.steps.1))

pub loop-i-preserved : goal.loop-i-preserved
loop-i-preserved c =
    let end = c in
    let low = end in
    let found = low.in-Some.ensures.steps in
    rw (c.in-Some.ensures.steps.3, c.max-latest.ensures)
    (ending_more low.loop-i.invariant _ _ found.1 (omega (arith, end.end_of.ensures, end.minutes.ensures)))

pub returns : goal.returns
returns c = c.loop-i.invariant.by
