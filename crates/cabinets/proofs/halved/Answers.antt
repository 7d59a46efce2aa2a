-- `cabinets::halved` meets its contract.
use Rattle.tables.specs.Tables.{sheet_of}
use Rattle.cabinets.proofs.Counts.{lower_half, upper_half}
use Rattle.cabinets.proofs.halved.Goals as goal

pub returns-then-serves : goal.returns-then-serves
returns-then-serves c =
    let a = c.args in
    let answer = lower_half (sheet_of a.jobs.now) a.by c.requires.0.jobs.lasting a.between c.requires.1.0 c.requires.1.1
    c.serves.result c.serves.ensures c.if-serves.true in
    record { holds = answer.0; fewer = answer.1 }

pub returns : goal.returns
returns c =
    let a = c.args in
    let answer = upper_half (sheet_of a.jobs.now) a.by c.requires.0.jobs.lasting a.between c.requires.1.0 c.requires.1.1
    c.serves.result c.serves.ensures c.if-serves.false in
    record { holds = answer.0; fewer = answer.1 }
