-- `opening::new_desk` meets its contract: what the refusal says, and the new desk where there is none.
use mathlib.Core.Path.{◌≡◌, sym, ap, ◌∙◌}
use native.Mathlib.Omega.{arith}
use borrow.Author.Rules.{rules}
use Rattle.std.specs.Prelude.{Err}
use Rattle.desk.specs.Desk.{new_desk}
use Rattle.desk.specs.Calls.{opened, opened_by}
use Rattle.desk.proofs.Grants.{Opens, open_says, refused_opening, granted_opening}
use Rattle.opening.proofs.new_desk.Goals as goal

pub returns-in_err-check_opening : goal.returns-in_err-check_opening
unfolding opened
returns-in_err-check_opening c =
    let e : c.from_residual.result ≡ Err c.in_err-check_opening.field-0.0 = search rules in
    ap opened_by e ∙ refused_opening _ _ _ c.in_err-check_opening.ensures

pub places-shares-requires : goal.places-shares-requires
unfolding opened
places-shares-requires c = (open_says _ _ _ (sym c.in_ok-check_opening.ensures)).controllers.most

pub places-tops-requires : goal.places-tops-requires
unfolding opened
places-tops-requires c =
    let a = c.args in
    let at : Opens a.limit a.assured.now a.ceilings.now = open_says _ _ _ (sym c.in_ok-check_opening.ensures) in
    let m = at.controllers.most in
    omega (arith, at.same)

pub returns : goal.returns
unfolding opened
returns c =
    let a = c.args in
    rw (c.places-shares.ensures, c.places-tops.ensures)
    (granted_opening (new_desk a.limit a.assured.now a.ceilings.now) _ c.in_ok-check_opening.ensures)
