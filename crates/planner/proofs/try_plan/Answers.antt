-- `planner::try_plan` meets its contract.
use mathlib.Core.Path.{sym, ◌∙◌}
use Rattle.std.proofs.lemmas.Result.{err_from_is_err_and}
use Rattle.planner.proofs.Calls.{turned_away, few_jobs, no_room, can_plan, answered}
use Rattle.planner.proofs.try_plan.Goals as goal

pub returns-in_err-jobs : goal.returns-in_err-jobs
returns-in_err-jobs c =
    let a = c.args in
    let p = err_from_is_err_and c.from_residual.result c.from_residual.ensures.1 in
    let answer = turned_away a.sheet.now a.card.now a.work.now c.in_err-jobs.field-0.0 c.in_err-jobs.ensures in
    record { refusal = rw (p.1, p.2) answer.0; card = answer.1.0; work = answer.1.1 }

pub too_short-requires : goal.too_short-requires
too_short-requires c =
    let a = c.args in
    few_jobs a.sheet.now a.card.now a.work.now c.in_ok-jobs.jobs c.in_ok-jobs.ensures

pub returns-then-too_short : goal.returns-then-too_short
returns-then-too_short c =
    let a = c.args in
    let answer = no_room a.sheet.now a.card.now a.work.now c.in_ok-jobs.jobs c.in_ok-jobs.ensures (sym c.too_short.ensures ∙ c.if-too_short.true) in
    record { refusal = answer.0; card = answer.1.0; work = answer.1.1 }

pub write_best-requires : goal.write_best-requires
write_best-requires c =
    let a = c.args in
    can_plan a.sheet.now a.card.now a.work.now c.in_ok-jobs.jobs c.in_ok-jobs.ensures (sym c.too_short.ensures ∙ c.if-too_short.false)

pub returns : goal.returns
returns c =
    let a = c.args in
    let answer = answered a.sheet.now a.card.now a.work.now c.in_ok-jobs.jobs c.in_ok-jobs.ensures
    (sym c.too_short.ensures ∙ c.if-too_short.false) _ _ c.write_best.ensures.card c.write_best.ensures.work in
    record { refusal = answer.0; card = answer.1.0; work = answer.1.1 }
