-- `weights::room_for` meets its contract.
use native.Mathlib.Omega.{arith}
use mathlib.Core.Path.{refl}
use Prim.Native.Nat.{ℕ, ◌+◌, ◌*◌, ◌≤◌, min, max}
use Rattle.tables.proofs.Laws.{zeros}
use Rattle.weights.specs.Weights.{weightings}
use Rattle.weights.proofs.Walks.{walk_start, walk_fits, walk_step, room_start, room_low, room-step, room-done}
use Rattle.weights.proofs.room_for.Goals as goal

pub loop-i-init : goal.loop-i-init
loop-i-init c =
    let pre = c.requires in (
      (refl, walk_start c.args.part.now pre.0.1 pre.1.0 pre.1.1),
      λ q l. room_start (λ x m. pre.0.0 (x * weightings + q) (omega (arith, pre.1.0))) (zeros weightings q),
    )

pub overflow_sub-to : goal.overflow_sub-to
overflow_sub-to c = omega (arith, c.next_end-to.ensures)

pub with_room-room-requires : goal.with_room-room-requires
with_room-room-requires c =
    let loop = c.loop-i in
    let fits = c.ranges in
    let pre = c.requires in
    let walk = loop.invariant.0.1 in
    let to = c.next_end-to.result in
    let on : loop.at ≤ to = omega (arith, c.next_end-to.ensures) in
    let low : to ≤ 65535 = omega (arith, c.next_end-to.ensures, walk.before, fits.close.fits) in (
      (omega (arith, walk.balance, walk.narrow), pre.0.0),
      λ q l. omega (arith, room_low walk (loop.invariant.1 q l) to on),
    )

pub overflow_add-f : goal.overflow_add-f
overflow_add-f c =
    let loop-test = c.loop-i-test in
    let loop = c.loop-i in
    let walk = loop.invariant.0.1 in
    record { fits = omega (arith, walk_fits walk (omega (arith, loop.invariant.0.0, loop-test.true))) }

pub loop-i-preserved : goal.loop-i-preserved
loop-i-preserved c =
    let with-room = c.with_room-room in
    let next-end = c.next_end-to in
    let loop-test = c.loop-i-test in
    let args = c.args in
    let loop = c.loop-i in
    let walk = loop.invariant.0.1 in
    let to = next-end.ensures in
    rw (to) (
      (loop.invariant.0.0, walk_step walk (omega (arith, loop.invariant.0.0, loop-test.true))),
      λ q l. rw (with-room.ensures q l, to) (room-step walk (loop.invariant.1 q l)),
    )

pub with_room-requires : goal.with_room-requires
with_room-requires c =
    let loop = c.loop-i in
    let args = c.args in
    let fits = c.ranges in
    let pre = c.requires in
    let walk = loop.invariant.0.1 in (
      (omega (arith, walk.balance, walk.narrow), pre.0.0),
      λ q l. omega (arith, room_low walk (loop.invariant.1 q l) args.close walk.before, fits.close.fits),
    )

pub returns : goal.returns
returns c =
    let loop-test = c.loop-i-test in
    let loop = c.loop-i in
    λ q l. rw (c.with_room.ensures q l)
    (room-done loop.invariant.0.1 (loop.invariant.1 q l) (omega (arith, loop.invariant.0.0, loop-test.false)))
