-- `branching::swapped` meets its contract.
use mathlib.Core.Path.{refl}
use mathlib.Core.Bool.{false}
use native.Mathlib.Omega.{arith}
use native.Mathlib.Nat.{pos_of_ne-zero}
use Rattle.counting.proofs.Tests.{clash}
use Rattle.bits.proofs.Walks.{walk_first, walk_next, walk_less}
use Rattle.tables.specs.Tables.{count_of}
use Rattle.branching.proofs.swapped.Goals as goal

pub below-requires : goal.below-requires
below-requires c = omega (arith, c.count.ensures, c.requires.0)

pub loop-i-init : goal.loop-i-init
loop-i-init c =
    let found = c.to_swap in
    let all = walk_first (count_of c.args.jobs.now) found.result in (
      refl,
      rw (c.into_iter-i-iterator.ensures.into_iter_gives, c.members-i-items.ensures, c.below.ensures, c.count.ensures) (record { below = all.below; inside = λ i b. found.ensures i (all.inside i b) }),
    )

pub offset_bounds-settled-i : goal.offset_bounds-settled-i
offset_bounds-settled-i c = record { fits = omega (arith, c.in-Some.ensures.steps.0) }

pub bounds-settled-i : goal.bounds-settled-i
bounds-settled-i c =
    let head = c in
    omega (arith, head.loop-i.invariant.1.below _ c.in-Some.ensures.steps.1, head.requires.0)

pub starts_behind-requires : goal.starts_behind-requires
starts_behind-requires c =
    let head = c in
    let pre = head.requires in
    (omega (arith, head.loop-i.invariant.1.below _ c.in-Some.ensures.steps.1, pre.0), pre.1)

pub returns-then-starts_behind : goal.returns-then-starts_behind
returns-then-starts_behind c = λ e.
    let head = c in
    let inv = head.loop-i.invariant in
    let rest = head.changeover-rest in
    let member = c.in-Some.ensures.steps.1 in
    let behind = c.starts_behind.ensures c.if-starts_behind.true in (
      c.in-Some.i,
      inv.1.below _ member,
      inv.1.inside _ member,
      (rw (rest.ensures) at behind.0, rw inv.0 at behind.1),
    )

pub loop-i-preserved : goal.loop-i-preserved
loop-i-preserved c =
    let low = c.in-Some.ensures.steps in
    let inv = c.loop-i.invariant in
    (inv.0, rw (c.in-Some.ensures.steps.3) (walk_next _ inv.1))

pub returns : goal.returns
returns c = λ e. clash false e refl
