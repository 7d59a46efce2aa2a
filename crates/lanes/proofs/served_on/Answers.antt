-- `lanes::served_on` meets its contract.
use native.Mathlib.Omega.{arith}
use mathlib.Core.Path.{refl}
use Rattle.weights.proofs.Walks.{walk_start, walk_fits, walk_step}
use Rattle.lanes.proofs.Laws.{serve_start, serve-step, serve-done, serve_low, serve_all_low, reach_falls}
use Rattle.lanes.proofs.served_on.Goals as goal

pub reach_from-reach-requires : goal.reach_from-reach-requires
reach_from-reach-requires c = (c.requires.0, c.requires.1.before)

pub loop-i-init : goal.loop-i-init
loop-i-init c =
    let s = c.requires.1 in (
      (refl, c.requires.0),
      (s, (walk_start c.args.part.now s.profile s.narrow s.before, serve_start s c.reach_from-reach.result c.reach_from-reach.ensures)),
    )

pub reach_from-next-requires : goal.reach_from-next-requires
reach_from-next-requires c =
    let inv = c.loop-i.invariant in
    (inv.0.1, omega (arith, c.next_end-to.ensures, inv.1.1.0.before))

pub lanes_on-requires : goal.lanes_on-requires
lanes_on-requires c =
    let walk = c.loop-i.invariant.1.1.0 in
    omega (arith, walk.balance, walk.narrow)

pub overflow_sub-total : goal.overflow_sub-total
overflow_sub-total c =
    let inv = c.loop-i.invariant.1 in
    let next = c.reach_from-next in
    let to = c.next_end-to in
    omega (arith, next.ensures, reach_falls inv.0 inv.1.0 inv.1.1 to.result (omega (arith, to.ensures)))

pub overflow_mul-total : goal.overflow_mul-total
overflow_mul-total c =
    let inv = c.loop-i.invariant.1 in
    let next = c.reach_from-next in
    let to = c.next_end-to in
    let falls = reach_falls inv.0 inv.1.0 inv.1.1 to.result (omega (arith, to.ensures)) in
    let low = serve_low inv.0 inv.1.0 inv.1.1 next.result (omega (arith, next.ensures, falls)) in
    rw c.lanes_on.ensures (record { fits = omega (arith, low) })

pub overflow_add-total : goal.overflow_add-total
overflow_add-total c =
    let inv = c.loop-i.invariant.1 in
    let next = c.reach_from-next in
    let to = c.next_end-to in
    let falls = reach_falls inv.0 inv.1.0 inv.1.1 to.result (omega (arith, to.ensures)) in
    let low = serve_low inv.0 inv.1.0 inv.1.1 next.result (omega (arith, next.ensures, falls)) in
    rw c.lanes_on.ensures (record { fits = omega (arith, low) })

pub overflow_add-f : goal.overflow_add-f
overflow_add-f c =
    let loop-test = c.loop-i-test in
    let loop = c.loop-i in
    let inv = loop.invariant in
    record { fits = omega (arith, walk_fits inv.1.1.0 (omega (arith, inv.0.0, loop-test.true))) }

pub loop-i-preserved : goal.loop-i-preserved
loop-i-preserved c =
    let lanes_on = c.lanes_on in
    let next-end = c.next_end-to in
    let loop-test = c.loop-i-test in
    let past = c in
    let loop = c.loop-i in
    let inv = loop.invariant in
    let s = inv.1.0 in
    let walk = inv.1.1.0 in
    let next = c.reach_from-next in
    let to = next-end.ensures in
    let step = serve-step s walk inv.1.1.1 next-end.result next.result to next.ensures in
    let on = walk_step walk (omega (arith, inv.0.0, loop-test.true)) in
    (inv.0, (s, (rw (to) on, rw lanes_on.ensures step)))

pub lanes_on-requires-2 : goal.lanes_on-requires-2
lanes_on-requires-2 c =
    let walk = c.loop-i.invariant.1.1.0 in
    omega (arith, walk.balance, walk.narrow)

pub overflow_mul-result : goal.overflow_mul-result
overflow_mul-result c =
    let inv = c.loop-i.invariant.1 in
    rw c.lanes_on-2.ensures (record { fits = omega (arith, serve_all_low inv.0 inv.1.0 inv.1.1) })

pub overflow_add-result : goal.overflow_add-result
overflow_add-result c =
    let inv = c.loop-i.invariant.1 in
    rw c.lanes_on-2.ensures (record { fits = omega (arith, serve_all_low inv.0 inv.1.0 inv.1.1) })

pub returns : goal.returns
returns c =
    let loop = c.loop-i in
    let inv = loop.invariant.1 in
    rw c.lanes_on-2.ensures
    (serve-done inv.0 inv.1.0 inv.1.1 (omega (arith, loop.invariant.0.0, c.loop-i-test.false)))
