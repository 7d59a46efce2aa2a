-- `limited::write_within` meets its contract.
use mathlib.Core.Path.{sym}
use Rattle.limited.proofs.Answers.{within-written}
use Rattle.limited.proofs.write_within.Goals as goal

pub run_within-best-requires : goal.run_within-best-requires
run_within-best-requires c = (c.requires.0, c.requires.1.0)

pub write_plan-requires : goal.write_plan-requires
write_plan-requires c =
    let answer = c.run_within-best.ensures.answer in
    ((c.requires.0, answer.order), (sym answer.end, c.requires.1.1))

pub returns : goal.returns
returns c =
    let best = c.run_within-best in
    record { answer = rw c.mark.ensures (within-written best.result best.ensures.answer best.ensures.unlimited c.write_plan.ensures); work = best.ensures.cleared }
