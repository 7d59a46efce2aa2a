-- `sheet::check_writing` meets its contract: each refusal stands behind the checks that passed.
use mathlib.Core.Path.{sym}
use native.Mathlib.Omega.{arith}
use Rattle.std.proofs.lemmas.Result.{err_from_is_err_and}
use Rattle.checking.specs.Refusals.{number_of}
use Rattle.checking.proofs.Numbers.{number-some}
use Rattle.sheet_format.specs.Format.{jobs_in}
use Rattle.sheet_format.proofs.Trailers.{figures_fit_lem}
use Rattle.sheet.proofs.Writes.{refused_figures, refused_content, refused-room, not-refused}
use Rattle.sheet.proofs.check_writing.Goals as goal

pub returns-in_err-check_figures : goal.returns-in_err-check_figures
returns-in_err-check_figures c =
    let p = err_from_is_err_and c.from_residual.result c.from_residual.ensures.1 in
    let e = c.in_err-check_figures.field-0.0 in
    let a = c.args in
    rw (p.1, p.2)
    (refused_figures (jobs_in a.jobs) a.count a.labels.now a.cabinet a.room (number_of e) c.in_err-check_figures.ensures (number-some e))

pub survey-found-requires : goal.survey-found-requires
survey-found-requires c = (figures_fit_lem c.args.count c.args.cabinet (sym c.in_ok-check_figures.ensures)).few

pub check_content-requires : goal.check_content-requires
check_content-requires c = (
  (figures_fit_lem c.args.count c.args.cabinet (sym c.in_ok-check_figures.ensures)).few,
  c.survey-found.ensures.1,
  c.survey-found.ensures.0,
)

pub returns-in_err-check_content : goal.returns-in_err-check_content
returns-in_err-check_content c =
    let r = c.from_residual-in_err-check_content in
    let p = err_from_is_err_and r.result r.ensures.1 in
    let e = c.in_err-check_content.field-0.0 in
    let a = c.args in
    rw (p.1, p.2)
    (refused_content (jobs_in a.jobs) a.count a.labels.now a.cabinet a.room (sym c.in_ok-check_figures.ensures) (number_of e)
    c.in_err-check_content.ensures (number-some e))

pub overflow_mul-count : goal.overflow_mul-count
overflow_mul-count c = omega (arith, figures_fit_lem c.args.count c.args.cabinet (sym c.in_ok-check_figures.ensures))

pub overflow_add-labels : goal.overflow_add-labels
overflow_add-labels c = omega (arith, figures_fit_lem c.args.count c.args.cabinet (sym c.in_ok-check_figures.ensures))

pub overflow_add-labels-2 : goal.overflow_add-labels-2
overflow_add-labels-2 c = omega (arith, figures_fit_lem c.args.count c.args.cabinet (sym c.in_ok-check_figures.ensures))

pub returns-then-room-labels : goal.returns-then-room-labels
returns-then-room-labels c =
    let a = c.args in
    refused-room (jobs_in a.jobs) a.count a.labels.now a.cabinet a.room
    (sym c.in_ok-check_figures.ensures) (sym c.in_ok-check_content.ensures) c.if-room-labels.true

pub returns : goal.returns
returns c =
    let a = c.args in
    not-refused (jobs_in a.jobs) a.count a.labels.now a.cabinet a.room
    (sym c.in_ok-check_figures.ensures) (sym c.in_ok-check_content.ensures) c.if-room-labels.false
