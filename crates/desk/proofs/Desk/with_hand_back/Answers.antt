-- `desk::Desk::with_hand_back` meets its contract: what the refusal says, and the holding where there is none.
use mathlib.Core.Path.{◌≡◌, refl, sym, ap, ◌∙◌}
use native.Mathlib.Omega.{arith}
use borrow.Author.Rules.{rules}
use Rattle.std.specs.Prelude.{Err, ◌-◌}
use Rattle.desk.specs.Desk.{holding, with_holding}
use Rattle.desk.specs.Calls.{handed_back, answered}
use Rattle.desk.proofs.Sound.{Here}
use Rattle.desk.proofs.Grants.{Holds, hand_back_says, refused_answer, granted_answer}
use Rattle.desk.proofs.Desk.with_hand_back.Goals as goal

pub returns-in_err-check_hand_back : goal.returns-in_err-check_hand_back
unfolding handed_back
returns-in_err-check_hand_back c =
    let e : c.from_residual.result ≡ Err c.in_err-check_hand_back.field-0.0 = search rules in
    ap (answered c.args.self) e ∙ refused_answer _ _ _ _ c.in_err-check_hand_back.ensures

pub holding_at-requires : goal.holding_at-requires
holding_at-requires c = (hand_back_says _ _ _ (sym c.in_ok-check_hand_back.ensures)).0.inside

pub overflow_sub-held : goal.overflow_sub-held
overflow_sub-held c =
    let a = c.args in
    let at : Here a.self a.controller × Holds a.self a.controller a.power = hand_back_says _ _ _ (sym c.in_ok-check_hand_back.ensures) in
    let h = at.0 in
    let g = c.holding_at.ensures in
    omega (arith, at.1.within)

pub with_holding-requires : goal.with_holding-requires
with_holding-requires c = (hand_back_says _ _ _ (sym c.in_ok-check_hand_back.ensures)).0.inside

pub returns : goal.returns
unfolding handed_back
returns c =
    let d = c.args.self in
    let e : c.with_holding.result ≡ with_holding d c.args.controller (holding d c.args.controller - c.args.power) =
    rw (c.with_holding.ensures, c.holding_at.ensures) refl in
    rw e (granted_answer d _ _ c.in_ok-check_hand_back.ensures)
