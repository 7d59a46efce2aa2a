-- `desk::Desk::check_hand_back` meets its contract: the checks in turn.
use mathlib.Core.Path.{◌≡◌, refl, sym, ◌∙◌}
use mathlib.Core.Bool.{false}
use Prim.Native.Nat.{◌≤◌, ◌<◌}
use native.Mathlib.Omega.{arith}
use borrow.Author.Tests.{lt-ltb, le-ltb, eq-eqb, ne_eqb}
use Rattle.checking.specs.Checking.{first_failing}
use Rattle.desk.specs.Desk.{holding}
use Rattle.desk.specs.Checks.{not_of_desk}
use Rattle.desk.specs.Calls.{hand_back_refusal}
use Rattle.desk.proofs.Sound.{here_says}
use Rattle.desk.proofs.Desk.check_hand_back.Goals as goal

pub returns-then-not_of_desk : goal.returns-then-not_of_desk
unfolding hand_back_refusal first_failing
returns-then-not_of_desk c = rw (← c.not_of_desk.ensures, c.if-not_of_desk.true) refl

pub returns-then-power-eq0 : goal.returns-then-power-eq0
unfolding hand_back_refusal first_failing
returns-then-power-eq0 c =
    let passed : not_of_desk c.args.self c.args.controller ≡ false = sym c.not_of_desk.ensures ∙ c.if-not_of_desk.false in
    rw (passed, eq-eqb _ _ c.if-power-eq0.true) refl

pub holding_at-requires : goal.holding_at-requires
holding_at-requires c =
    (here_says c.not_of_desk.ensures c.if-not_of_desk.false).inside

pub returns-then-holding_at-power : goal.returns-then-holding_at-power
unfolding hand_back_refusal first_failing
returns-then-holding_at-power c =
    let passed : not_of_desk c.args.self c.args.controller ≡ false = sym c.not_of_desk.ensures ∙ c.if-not_of_desk.false in
    let a = c.args in
    let h = c.holding_at.ensures in
    let t = c.if-holding_at-power.true in
    let less : holding a.self a.controller < a.power = omega arith in
    rw (passed, ne_eqb _ _ c.if-power-eq0.false, lt-ltb _ _ less) refl

pub returns : goal.returns
unfolding hand_back_refusal first_failing
returns c =
    let passed : not_of_desk c.args.self c.args.controller ≡ false = sym c.not_of_desk.ensures ∙ c.if-not_of_desk.false in
    let a = c.args in
    let h = c.holding_at.ensures in
    let t = c.if-holding_at-power.false in
    let within : a.power ≤ holding a.self a.controller = omega arith in
    rw (passed, ne_eqb _ _ c.if-power-eq0.false, le-ltb _ _ within) refl
