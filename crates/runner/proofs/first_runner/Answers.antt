-- `runner::first_runner` meets its contract: planning's checks, then those of the desk, the size and the card.
use mathlib.Core.Path.{◌≡◌, ap, ◌∙◌}
use borrow.Author.Rules.{rules}
use Rattle.std.specs.Prelude.{Err}
use Rattle.runner.specs.Results.{started_by}
use Rattle.runner.proofs.Starts.{not_planable, ready, not_startable, rooms, startable}
use Rattle.runner.proofs.first_runner.Goals as goal

pub returns-in_err-jobs : goal.returns-in_err-jobs
returns-in_err-jobs c =
    let a = c.args in
    let e : c.from_residual.result ≡ Err c.in_err-jobs.field-0.0 = search rules in
    ap started_by e ∙ not_planable a.sheet.now a.card.now a.desk a.controller a.size _ c.in_err-jobs.ensures

pub check_start-requires : goal.check_start-requires
check_start-requires c =
    let a = c.args in
    (ready a.sheet.now a.card.now a.desk a.controller a.size _ c.in_ok-jobs.ensures).fit

pub returns-in_err-check_start : goal.returns-in_err-check_start
returns-in_err-check_start c =
    let a = c.args in
    let e : c.from_residual-in_err-check_start.result ≡ Err c.in_err-check_start.field-0.0 = search rules in
    ap started_by e ∙ not_startable a.sheet.now a.card.now a.desk a.controller a.size _ c.in_ok-jobs.ensures _ c.in_err-check_start.ensures

pub new_runner-requires : goal.new_runner-requires
new_runner-requires c =
    let a = c.args in
    rooms a.sheet.now a.card.now a.desk a.controller a.size _ c.in_ok-jobs.ensures c.in_ok-check_start.ensures

pub returns : goal.returns
returns c =
    let a = c.args in
    startable a.sheet.now a.card.now a.desk a.controller a.size _ c.in_ok-jobs.ensures c.in_ok-check_start.ensures
    c.new_runner.result c.new_runner.ensures
