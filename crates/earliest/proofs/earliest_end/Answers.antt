-- `earliest::earliest_end` meets its contract.
use Rattle.earliest.proofs.Ends.{turned_away, can_search, answered}
use Rattle.earliest.proofs.earliest_end.Goals as goal

pub earliest-requires : goal.earliest-requires
earliest-requires c = can_search c.args.sheet.now c.args.work.now c.in-Ok.jobs c.in-Ok.ensures

pub returns-in-Ok : goal.returns-in-Ok
returns-in-Ok c =
    let a = c.args in
    let answer = answered a.sheet.now a.work.now c.in-Ok.jobs c.in-Ok.ensures c.earliest.result _ c.earliest.ensures.answer c.earliest.ensures.cleared in
    record { answer = answer.0; work = answer.1 }

pub returns-in-Err : goal.returns-in-Err
returns-in-Err c =
    let a = c.args in
    let answer = turned_away a.sheet.now a.work.now c.in-Err.refusal c.in-Err.ensures c.number.result c.number.ensures in
    record { answer = answer.0; work = answer.1 }
