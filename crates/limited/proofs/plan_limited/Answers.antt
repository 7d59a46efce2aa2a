-- `limited::plan_limited` meets its contract.
use mathlib.Core.Path.{sym, ◌∙◌}
use native.Mathlib.Omega.{arith}
use Rattle.checking.specs.Refusals.{number_of}
use Rattle.checking.proofs.Numbers.{number-some}
use Rattle.planner.proofs.Calls.{turned_away, few_jobs, no_room, can_plan}
use Rattle.limited.proofs.Answers.{refused-gives, answered-gives}
use Rattle.limited.proofs.plan_limited.Goals as goal

pub returns-in-Err : goal.returns-in-Err
returns-in-Err c =
    let a = c.args in
    let e = c.in-Err.refusal in
    let given = turned_away a.sheet.now a.card.now a.work.now e c.in-Err.ensures in
    let answer = refused-gives a.sheet.now a.card.now a.work.now (number_of e) a.limit given (number-some e) c.refused.ensures in
    record { refused = answer.0; answered = answer.1.0; work = answer.1.1 }

pub too_short-requires : goal.too_short-requires
too_short-requires c =
    let a = c.args in
    few_jobs a.sheet.now a.card.now a.work.now c.in-Ok.jobs c.in-Ok.ensures

pub returns-then-too_short : goal.returns-then-too_short
returns-then-too_short c =
    let a = c.args in
    let given = no_room a.sheet.now a.card.now a.work.now c.in-Ok.jobs c.in-Ok.ensures (sym c.too_short.ensures ∙ c.if-too_short.true) in
    let answer = refused-gives a.sheet.now a.card.now a.work.now 10 a.limit given (λ e. omega (arith, e)) c.refused-then-too_short.ensures in
    record { refused = answer.0; answered = answer.1.0; work = answer.1.1 }

pub write_within-requires : goal.write_within-requires
write_within-requires c =
    let a = c.args in
    can_plan a.sheet.now a.card.now a.work.now c.in-Ok.jobs c.in-Ok.ensures (sym c.too_short.ensures ∙ c.if-too_short.false)

pub returns : goal.returns
returns c =
    let a = c.args in
    let written = c.write_within.ensures in
    let answer = answered-gives a.sheet.now a.card.now a.work.now c.in-Ok.jobs c.in-Ok.ensures (sym c.too_short.ensures ∙ c.if-too_short.false) _
    written.answer written.work in
    record { refused = answer.0; answered = answer.1.0; work = answer.1.1 }
