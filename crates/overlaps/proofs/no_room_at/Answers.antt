-- `overlaps::no_room_at` meets its contract.
use native.Mathlib.Omega.{arith}
use borrow.Author.Tests.{ltb-true}
use Rattle.placement.proofs.Profiles.{profile_later}
use Rattle.overlaps.proofs.Laws.{overlapping-at}
use Rattle.overlaps.proofs.no_room_at.Goals as goal

pub advance-ended-requires : goal.advance-ended-requires
advance-ended-requires c = rw c.modules.ensures (profile_later c.args.m c.requires.1.1 c.requires.1.0)

pub all_hold-requires : goal.all_hold-requires
all_hold-requires c = c.requires.0

pub returns : goal.returns
returns c =
    let start = c in
    let modules = c.modules.ensures in
    let advance = c.advance-ended in
    let all_hold = c.all_hold in
    let held = all_hold.ensures in
    λ e. overlapping-at start.args.m advance.result start.requires.1.1 (rw modules at advance.ensures)
    (omega (arith, ltb-true advance.result.free all_hold.result e, held))
