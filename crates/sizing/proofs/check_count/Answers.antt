-- `sizing::check_count` meets its contract.
use mathlib.Core.Path.{sym, ◌∙◌}
use Rattle.schedule.specs.Plan.{Circular}
use Rattle.tables.specs.Tables.{sheet_of}
use Rattle.sizing.proofs.Refusals.{number_circular, number_no-count, number_no-room, number-none}
use Rattle.sizing.proofs.check_count.Goals as goal

pub circular-requires : goal.circular-requires
circular-requires c = c.requires.few

pub returns-then-circular : goal.returns-then-circular
returns-then-circular c =
    let a = c.args in
    sym (number_circular (sheet_of a.jobs.now) a.by a.room (c.circular.ensures.yes c.if-circular.true))

pub none_serves-requires : goal.none_serves-requires
none_serves-requires c =
    let free : ¬ Circular (sheet_of c.args.jobs.now) = c.circular.ensures.no c.if-circular.false in
    record { jobs = c.requires; free = free }

pub returns-then-none_serves : goal.returns-then-none_serves
returns-then-none_serves c =
    let free : ¬ Circular (sheet_of c.args.jobs.now) = c.circular.ensures.no c.if-circular.false in
    let a = c.args in
    sym (number_no-count (sheet_of a.jobs.now) a.by a.room free
    (sym c.none_serves.ensures ∙ c.if-none_serves.true))

pub too_short-requires : goal.too_short-requires
too_short-requires c =
    c.requires.few

pub returns-then-too_short : goal.returns-then-too_short
returns-then-too_short c =
    let free : ¬ Circular (sheet_of c.args.jobs.now) = c.circular.ensures.no c.if-circular.false in
    let a = c.args in
    sym (number_no-room (sheet_of a.jobs.now) a.by a.room free
    (sym c.none_serves.ensures ∙ c.if-none_serves.false) (sym c.too_short.ensures ∙ c.if-too_short.true))

pub returns : goal.returns
returns c =
    let free : ¬ Circular (sheet_of c.args.jobs.now) = c.circular.ensures.no c.if-circular.false in
    let a = c.args in
    sym (number-none (sheet_of a.jobs.now) a.by a.room free
    (sym c.none_serves.ensures ∙ c.if-none_serves.false) (sym c.too_short.ensures ∙ c.if-too_short.false))
