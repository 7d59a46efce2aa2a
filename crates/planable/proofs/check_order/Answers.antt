-- `planable::check_order` meets its contract.
use mathlib.Core.Path.{◌≡◌, sym, ◌∙◌}
use mathlib.Core.Bool.{Bool}
use Rattle.schedule.specs.Plan.{over_wide}
use Rattle.tables.specs.Tables.{sheet_of}
use Rattle.planable.proofs.Circles.{number_wide, number_circular, number-none}
use Rattle.planable.proofs.check_order.Goals as goal

pub returns-then-over_wide : goal.returns-then-over_wide
returns-then-over_wide c =
    let sheet = sheet_of c.args.jobs.now in
    let tested : (b : Bool) → c.over_wide.result ≡ b → over_wide sheet ≡ b = λ b e. sym c.over_wide.ensures ∙ e in
    sym (number_wide sheet (tested _ c.if-over_wide.true))

pub returns-then-circular : goal.returns-then-circular
returns-then-circular c =
    let sheet = sheet_of c.args.jobs.now in
    let tested : (b : Bool) → c.over_wide.result ≡ b → over_wide sheet ≡ b = λ b e. sym c.over_wide.ensures ∙ e in
    sym (number_circular sheet (tested _ c.if-over_wide.false) (c.circular.ensures.yes c.if-circular.true))

pub returns : goal.returns
returns c =
    let sheet = sheet_of c.args.jobs.now in
    let tested : (b : Bool) → c.over_wide.result ≡ b → over_wide sheet ≡ b = λ b e. sym c.over_wide.ensures ∙ e in
    sym (number-none sheet (tested _ c.if-over_wide.false) (c.circular.ensures.no c.if-circular.false))
