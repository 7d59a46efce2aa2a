-- `desk::Desk::with_claim` meets its contract: what the refusal says, and the holding where there is none.
use mathlib.Core.Path.{◌≡◌, refl, sym, ap, ◌∙◌}
use native.Mathlib.Omega.{arith}
use borrow.Author.Rules.{rules}
use Rattle.std.specs.Prelude.{Err, ◌+◌}
use Rattle.desk.specs.Desk.{holding, with_holding}
use Rattle.desk.specs.Calls.{claimed, answered}
use Rattle.desk.proofs.Sound.{Here}
use Rattle.desk.proofs.Grants.{Fits, claim_says, refused_answer, granted_answer}
use Rattle.desk.proofs.Desk.with_claim.Goals as goal

pub returns-in_err-check_claim : goal.returns-in_err-check_claim
unfolding claimed
returns-in_err-check_claim c =
    let e : c.from_residual.result ≡ Err c.in_err-check_claim.field-0.0 = search rules in
    ap (answered c.args.self) e ∙ refused_answer _ _ _ _ c.in_err-check_claim.ensures

pub holding_at-requires : goal.holding_at-requires
holding_at-requires c = (claim_says _ _ _ (sym c.in_ok-check_claim.ensures)).0.inside

pub overflow_add-held : goal.overflow_add-held
overflow_add-held c =
    let a = c.args in
    let at : Here a.self a.controller × Fits a.self a.controller a.power = claim_says _ _ _ (sym c.in_ok-check_claim.ensures) in
    let h = at.0 in
    let g = c.holding_at.ensures in
    omega (arith, at.1.under)

pub with_holding-requires : goal.with_holding-requires
with_holding-requires c = (claim_says _ _ _ (sym c.in_ok-check_claim.ensures)).0.inside

pub returns : goal.returns
unfolding claimed
returns c =
    let d = c.args.self in
    let e : c.with_holding.result ≡ with_holding d c.args.controller (holding d c.args.controller + c.args.power) =
    rw (c.with_holding.ensures, c.holding_at.ensures) refl in
    rw e (granted_answer d _ _ c.in_ok-check_claim.ensures)
