-- `areas::late_from` meets its contract.
use Prim.Native.Nat.{◌+◌}
use native.Mathlib.Omega.{arith}
use borrow.Author.Tests.{ltb-true}
use Rattle.areas.proofs.Late.{late-work_small}
use Rattle.areas.proofs.late_from.Goals as goal

pub late_work-work-requires : goal.late_work-work-requires
late_work-work-requires c = c.requires.0

pub held_after-requires : goal.held_after-requires
held_after-requires c = c.requires.1.0

pub overflow_add-result : goal.overflow_add-result
overflow_add-result c =
    let start = c in
    let a = start.args in
    let most = late-work_small start.requires.0 a.prepared.now a.l a.a c.args.part.now.unplaced in
    record { fits = omega (arith, c.late_work-work.ensures, most, c.held_after.ensures, start.requires.1.0.small) }

pub returns : goal.returns
returns c =
    let room = rw c.modules.ensures at c.times-room.ensures in
    let work = c.late_work-work.ensures in
    λ e.
    let less = ltb-true c.times-room.result (c.late_work-work.result + c.held_after.result) e in
    omega (arith, less, room, work, c.held_after.ensures)
