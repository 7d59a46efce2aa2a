-- `fitting::serving::add_job` meets its contract.
use native.Mathlib.Omega.{arith}
use mathlib.Core.Path.{ap, ◌∙◌}
use Prim.Native.Nat.{ℕ, ◌-◌, ◌/◌}
use Rattle.fitting.proofs.Tables.{column}
use Rattle.fitting.proofs.serving.add_job.Goals as goal

pub steps-lasts-requires : goal.steps-lasts-requires
steps-lasts-requires c = c.requires.0.0.some

pub steps-room-requires : goal.steps-room-requires
steps-room-requires c = c.requires.0.0.some

pub add_row-requires : goal.add_row-requires
add_row-requires c =
    let pre = c.requires in
    let args = c.args in
    let room = c.steps-room.ensures ∙ ap (λ (m : ℕ). m / args.frame.step) c.minutes_from.ensures in
    ((omega (arith, room, column pre.0.0 (args.frame.close - args.release) (omega (arith, pre.0.1))), pre.0.1.1), pre.1)

pub returns : goal.returns
returns c =
    let args = c.args in
    let room = c.steps-room.ensures ∙ ap (λ (m : ℕ). m / args.frame.step) c.minutes_from.ensures in
    rw (c.steps-lasts.ensures, room) at c.add_row.ensures
