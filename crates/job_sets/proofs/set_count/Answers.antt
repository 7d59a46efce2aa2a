-- `job_sets::set_count` meets its contract.
use Rattle.job_sets.proofs.Answers.{refused, few_jobs, no_circle, answered}
use Rattle.job_sets.proofs.set_count.Goals as goal

pub sets_of-requires : goal.sets_of-requires
sets_of-requires c =
    let s = c.args.sheet.now in
    (few_jobs s c.in-Ok.jobs c.in-Ok.ensures, no_circle s c.in-Ok.jobs c.in-Ok.ensures)

pub returns-in-Ok : goal.returns-in-Ok
returns-in-Ok c = answered c.args.sheet.now c.in-Ok.jobs c.in-Ok.ensures c.sets_of.result c.sets_of.ensures

pub returns-in-Err : goal.returns-in-Err
returns-in-Err c = refused c.args.sheet.now c.in-Err.refusal c.in-Err.ensures c.number.result c.number.ensures
