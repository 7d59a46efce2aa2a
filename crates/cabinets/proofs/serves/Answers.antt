-- `cabinets::serves` meets its contract.
use Rattle.cabinets.proofs.Counts.{few_jobs, too_wide, can_ask, asked}
use Rattle.cabinets.proofs.serves.Goals as goal

pub over_wide-requires : goal.over_wide-requires
over_wide-requires c =
    let a = c.args in
    few_jobs a.jobs.now c.requires.0 a.modules a.by c.for_cabinet-table.result c.for_cabinet-table.ensures

pub returns-then-over_wide : goal.returns-then-over_wide
returns-then-over_wide c =
    let a = c.args in
    too_wide a.jobs.now c.requires.0 a.modules a.by c.for_cabinet-table.result c.for_cabinet-table.ensures
    c.over_wide.result c.over_wide.ensures c.if-over_wide.true

pub ends_by-requires : goal.ends_by-requires
ends_by-requires c =
    let a = c.args in
    can_ask a.jobs.now c.requires.0 a.modules a.by c.for_cabinet-table.result c.for_cabinet-table.ensures
    c.over_wide.result c.over_wide.ensures c.requires.1.0 c.requires.1.1 c.if-over_wide.false

pub returns : goal.returns
returns c =
    let a = c.args in
    asked a.jobs.now c.requires.0 a.modules a.by c.for_cabinet-table.result c.for_cabinet-table.ensures
    c.ends_by.result c.ends_by.ensures.answer
