-- `candidates::next_choice` meets its contract.
use mathlib.Core.Path.{refl}
use Prim.Native.Nat.{◌%◌}
use lib.ListN.{get_or}
use native.Mathlib.Omega.{arith}
use native.Mathlib.Nat.{pos_of_ne-zero}
use Rattle.bits.proofs.Walks.{walk_less}
use Rattle.candidates.proofs.Choices.{choosing-none, choosing-step, choosing_all}
use Rattle.candidates.proofs.next_choice.Goals as goal

pub below-requires : goal.below-requires
below-requires c = omega (arith, c.requires)

pub loop-j-init : goal.loop-j-init
loop-j-init c = rw (c.into_iter-j-iterator.ensures.into_iter_gives, c.members-j-items.ensures, c.below.ensures) (choosing-none c.args.at.now c.args.set c.args.count)

pub offset_bounds-at-j : goal.offset_bounds-at-j
offset_bounds-at-j c = record { fits = omega (arith, c.in-Some.ensures.steps.0) }

pub bounds-at-j : goal.bounds-at-j
bounds-at-j c = omega (arith, c.loop-j.invariant.walk.below _ c.in-Some.ensures.steps.1, c.requires)

pub loop-j-preserved : goal.loop-j-preserved
loop-j-preserved c =
    let past = c in
    let a = past.args in
    let loop = c.loop-j in
    let rank = c.rank_of.ensures in
    let choose = c.choose-c in
    rw (c.in-Some.ensures.steps.3)
    (choosing-step a.at.now a.set a.count loop.j-iterator.left c.in-Some.j (get_or a.prepared.now.tails c.in-Some.j 0 % 65536) loop.c.job loop.c.rank
    choose.result.job choose.result.rank rank.1 loop.invariant c.in-Some.ensures.steps.1 (rw rank.0 at choose.ensures))

pub returns : goal.returns
returns c =
    let a = c.args in
    let loop = c.loop-j in
    choosing_all a.at.now a.set a.count loop.j-iterator.left loop.c.rank _ loop.invariant c.in-None.ensures.steps.0 refl
