-- `trailer::check` meets its contract: each refusal stands behind the tests that passed.
use mathlib.Core.Path.{refl, sym, ◌∙◌}
use Rattle.std.proofs.lemmas.Result.{err_from_is_err_and}
use Rattle.checking.specs.Checking.{first_failing}
use Rattle.checking.specs.Refusals.{number_of}
use Rattle.checking.proofs.Numbers.{number-some}
use Rattle.sheet_format.proofs.Trailers.{long-enough, figures_are, refused_figures, refused_offset, not-refused}
use Rattle.trailer.proofs.check.Goals as goal

pub returns-then-outside : goal.returns-then-outside
unfolding first_failing
returns-then-outside c = rw (sym c.outside.ensures ∙ c.if-outside.true)

pub count-n-requires : goal.count-n-requires
count-n-requires c = long-enough c.args.sheet.now (sym c.outside.ensures ∙ c.if-outside.false)

pub cabinet-requires : goal.cabinet-requires
cabinet-requires c = long-enough c.args.sheet.now (sym c.outside.ensures ∙ c.if-outside.false)

pub returns-in_err-check_figures : goal.returns-in_err-check_figures
returns-in_err-check_figures c =
    let p = err_from_is_err_and c.from_residual.result c.from_residual.ensures.1 in
    let s = c.args.sheet.now in
    let e = c.in_err-check_figures.field-0.0 in
    rw (p.1, p.2)
    (refused_figures s (sym c.outside.ensures ∙ c.if-outside.false) (number_of e)
    (figures_are s (number_of e) c.count-n.result c.cabinet.result c.count-n.ensures c.cabinet.ensures c.in_err-check_figures.ensures)
    (number-some e))

pub offset-requires : goal.offset-requires
offset-requires c = long-enough c.args.sheet.now (sym c.outside.ensures ∙ c.if-outside.false)

pub returns-then-offset-n : goal.returns-then-offset-n
returns-then-offset-n c =
    let s = c.args.sheet.now in
    let is = figures_are s 0 c.count-n.result c.cabinet.result c.count-n.ensures c.cabinet.ensures c.in_ok-check_figures.ensures in
    refused_offset s (sym c.outside.ensures ∙ c.if-outside.false) 0 is refl c.offset.result c.count-n.result
    c.offset.ensures c.count-n.ensures c.if-offset-n.true

pub returns : goal.returns
returns c =
    let s = c.args.sheet.now in
    let is = figures_are s 0 c.count-n.result c.cabinet.result c.count-n.ensures c.cabinet.ensures c.in_ok-check_figures.ensures in
    not-refused s (sym c.outside.ensures ∙ c.if-outside.false) 0 is refl c.offset.result c.count-n.result
    c.offset.ensures c.count-n.ensures c.if-offset-n.false
