-- `slack::slack` meets its contract.
use Rattle.slack.proofs.Calls.{turned_away, passed, can_search, answered}
use Rattle.slack.proofs.slack.Goals as goal

pub departures_of-requires : goal.departures_of-requires
departures_of-requires c =
    let a = c.args in
    passed a.sheet.now a.work.now c.in-Ok.jobs c.in-Ok.ensures

pub slacks_of-requires : goal.slacks_of-requires
slacks_of-requires c =
    let a = c.args in
    can_search a.sheet.now a.work.now c.in-Ok.jobs c.in-Ok.ensures c.departures_of.result.of c.departures_of.ensures

pub returns-in-Ok : goal.returns-in-Ok
returns-in-Ok c =
    let a = c.args in
    let answer = answered a.sheet.now a.work.now c.in-Ok.jobs c.in-Ok.ensures c.departures_of.result.of c.departures_of.ensures
    c.slacks_of.result _ c.slacks_of.ensures.answer c.slacks_of.ensures.cleared in
    record { answer = answer.0; work = answer.1 }

pub returns-in-Err : goal.returns-in-Err
returns-in-Err c =
    let a = c.args in
    let answer = turned_away a.sheet.now a.work.now c.in-Err.refusal c.in-Err.ensures c.number.result c.number.ensures c.no_slacks.result c.no_slacks.ensures in
    record { answer = answer.0; work = answer.1 }
