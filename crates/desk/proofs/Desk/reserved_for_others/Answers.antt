-- `desk::Desk::reserved_for_others` meets its contract: all that is reserved, less the controller's own part.
use native.Mathlib.Omega.{arith}
use Rattle.counting.proofs.Ranges.{every_intro}
use Rattle.desk.specs.Desk.{most_controllers}
use Rattle.desk.specs.Checks.{place_ok_at}
use Rattle.desk.proofs.Sound.{Here, of-desk_says, place}
use Rattle.desk.proofs.Desk.reserved_for_others.Goals as goal

pub reserved_in_all-requires : goal.reserved_in_all-requires
reserved_in_all-requires c =
    let at : Here c.args.self c.args.controller = of-desk_says _ _ c.requires in
    let d = c.args.self in
    let s = at.sound in
    (s.controllers.most, s.limit.most, every_intro most_controllers (place_ok_at d) (λ i l. place d i (s.places i l)))

pub reserved_at-requires : goal.reserved_at-requires
reserved_at-requires c =
    let at : Here c.args.self c.args.controller = of-desk_says _ _ c.requires in
    at.inside

pub overflow_sub-result : goal.overflow_sub-result
overflow_sub-result c =
    let at : Here c.args.self c.args.controller = of-desk_says _ _ c.requires in
    let h = at in
    let t = c.reserved_in_all.ensures in
    let l = c.reserved_at.ensures in
    omega arith

pub returns : goal.returns
returns c =
    let at : Here c.args.self c.args.controller = of-desk_says _ _ c.requires in
    let h = at in
    let t = c.reserved_in_all.ensures in
    let l = c.reserved_at.ensures in
    omega arith
