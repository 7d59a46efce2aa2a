-- `desk::Desk::check_claim` meets its contract: the checks in turn.
use mathlib.Core.Path.{◌≡◌, refl, sym, ◌∙◌}
use mathlib.Core.Bool.{false}
use Prim.Native.Nat.{◌+◌, ◌≤◌, ◌<◌}
use native.Mathlib.Omega.{arith}
use borrow.Author.Tests.{lt-ltb, le-ltb, eq-eqb, ne_eqb}
use Rattle.checking.specs.Checking.{first_failing}
use Rattle.desk.specs.Desk.{holding, ceiling_of, reserved_for_others}
use Rattle.desk.specs.Checks.{not_of_desk}
use Rattle.desk.specs.Calls.{claim_refusal}
use Rattle.desk.proofs.Sound.{Here, here_says}
use Rattle.desk.proofs.Desk.check_claim.Goals as goal

pub returns-then-not_of_desk : goal.returns-then-not_of_desk
unfolding claim_refusal first_failing
returns-then-not_of_desk c = rw (← c.not_of_desk.ensures, c.if-not_of_desk.true) refl

pub returns-then-power-eq0 : goal.returns-then-power-eq0
unfolding claim_refusal first_failing
returns-then-power-eq0 c =
    let passed : not_of_desk c.args.self c.args.controller ≡ false = sym c.not_of_desk.ensures ∙ c.if-not_of_desk.false in
    rw (passed, eq-eqb _ _ c.if-power-eq0.true) refl

pub below_ceiling-requires : goal.below_ceiling-requires
below_ceiling-requires c =
    let at : Here c.args.self c.args.controller = here_says c.not_of_desk.ensures c.if-not_of_desk.false in
    (at.inside, at.hold)

pub returns-then-below_ceiling-power : goal.returns-then-below_ceiling-power
unfolding claim_refusal first_failing
returns-then-below_ceiling-power c =
    let passed : not_of_desk c.args.self c.args.controller ≡ false = sym c.not_of_desk.ensures ∙ c.if-not_of_desk.false in
    let at : Here c.args.self c.args.controller = here_says c.not_of_desk.ensures c.if-not_of_desk.false in
    let a = c.args in
    let b = c.below_ceiling.ensures in
    let t = c.if-below_ceiling-power.true in
    let over : ceiling_of a.self a.controller < holding a.self a.controller + a.power = omega arith in
    rw (passed, ne_eqb _ _ c.if-power-eq0.false, lt-ltb _ _ over) refl

pub overflow_add-holding_at-2 : goal.overflow_add-holding_at-2
overflow_add-holding_at-2 c =
    let at : Here c.args.self c.args.controller = here_says c.not_of_desk.ensures c.if-not_of_desk.false in
    let under : let a = c.args in
    holding a.self a.controller + a.power ≤ ceiling_of a.self a.controller =
    let b = c.below_ceiling.ensures in
    let t = c.if-below_ceiling-power.false in
    omega arith in
    let g = c.holding_at.ensures in
    let r = c.reserved_for_others.ensures in
    omega (arith, under)

pub returns-then-limit-holding_at : goal.returns-then-limit-holding_at
unfolding claim_refusal first_failing
returns-then-limit-holding_at c =
    let passed : not_of_desk c.args.self c.args.controller ≡ false = sym c.not_of_desk.ensures ∙ c.if-not_of_desk.false in
    let at : Here c.args.self c.args.controller = here_says c.not_of_desk.ensures c.if-not_of_desk.false in
    let under : let a = c.args in
    holding a.self a.controller + a.power ≤ ceiling_of a.self a.controller =
    let b = c.below_ceiling.ensures in
    let t = c.if-below_ceiling-power.false in
    omega arith in
    let a = c.args in
    let g = c.holding_at.ensures in
    let r = c.reserved_for_others.ensures in
    let t = c.if-limit-holding_at.true in
    let full : a.self.limit < holding a.self a.controller + a.power + reserved_for_others a.self a.controller =
    omega arith in
    rw (passed, ne_eqb _ _ c.if-power-eq0.false, le-ltb _ _ under, lt-ltb _ _ full) refl

pub returns : goal.returns
unfolding claim_refusal first_failing
returns c =
    let passed : not_of_desk c.args.self c.args.controller ≡ false = sym c.not_of_desk.ensures ∙ c.if-not_of_desk.false in
    let at : Here c.args.self c.args.controller = here_says c.not_of_desk.ensures c.if-not_of_desk.false in
    let under : let a = c.args in
    holding a.self a.controller + a.power ≤ ceiling_of a.self a.controller =
    let b = c.below_ceiling.ensures in
    let t = c.if-below_ceiling-power.false in
    omega arith in
    let a = c.args in
    let g = c.holding_at.ensures in
    let r = c.reserved_for_others.ensures in
    let t = c.if-limit-holding_at.false in
    let fits : holding a.self a.controller + a.power + reserved_for_others a.self a.controller ≤ a.self.limit =
    omega arith in
    rw (passed, ne_eqb _ _ c.if-power-eq0.false, le-ltb _ _ under, le-ltb _ _ fits) refl
