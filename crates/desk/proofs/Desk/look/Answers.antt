-- `desk::Desk::look` meets its contract: the smaller of what is left below the ceiling and beside the others.
use mathlib.Core.Path.{◌≡◌, refl, sym, ◌∙◌}
use mathlib.Core.Bool.{false}
use native.Mathlib.Omega.{arith}
use Rattle.checking.specs.Checking.{first_failing}
use Rattle.desk.specs.Checks.{not_of_desk}
use Rattle.desk.specs.Calls.{look_refusal, room, looked}
use Rattle.desk.proofs.Sound.{Here, here_says}
use Rattle.desk.proofs.Desk.look.Goals as goal

pub returns-then-not_of_desk : goal.returns-then-not_of_desk
unfolding looked look_refusal first_failing
returns-then-not_of_desk c = rw (c.number.ensures, ← c.not_of_desk.ensures, c.if-not_of_desk.true) refl

pub below_ceiling-below_ceiling-requires : goal.below_ceiling-below_ceiling-requires
below_ceiling-below_ceiling-requires c =
    let at : Here c.args.self c.args.controller = here_says c.not_of_desk.ensures c.if-not_of_desk.false in
    (at.inside, at.hold)

pub holding_at-held-requires : goal.holding_at-held-requires
holding_at-held-requires c =
    let at : Here c.args.self c.args.controller = here_says c.not_of_desk.ensures c.if-not_of_desk.false in
    at.inside

pub overflow_add-beside_others : goal.overflow_add-beside_others
overflow_add-beside_others c =
    let at : Here c.args.self c.args.controller = here_says c.not_of_desk.ensures c.if-not_of_desk.false in
    let g = c.holding_at-held.ensures in
    let r = c.reserved_for_others.ensures in
    omega arith

pub overflow_sub-beside_others : goal.overflow_sub-beside_others
overflow_sub-beside_others c =
    let at : Here c.args.self c.args.controller = here_says c.not_of_desk.ensures c.if-not_of_desk.false in
    let g = c.holding_at-held.ensures in
    let r = c.reserved_for_others.ensures in
    omega arith

pub returns : goal.returns
unfolding looked look_refusal first_failing
returns c =
    let passed : not_of_desk c.args.self c.args.controller ≡ false = sym c.not_of_desk.ensures ∙ c.if-not_of_desk.false in
    let a = c.args in
    let b = c.below_ceiling-below_ceiling.ensures in
    let g = c.holding_at-held.ensures in
    let r = c.reserved_for_others.ensures in
    let s = c.min.ensures in
    let e : c.min.result ≡ room a.self a.controller = omega arith in
    rw (passed, ← e) refl
