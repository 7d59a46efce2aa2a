-- `slack::planned_starts` meets its contract.
use Rattle.slack.proofs.Given.{starts_are}
use Rattle.slack.proofs.planned_starts.Goals as goal

pub returns : goal.returns
returns c =
    let replay = c.replay-slots in
    record { starts = starts_are c.args.jobs.now c.requires.0 c.run-best.result c.run-best.ensures.answer replay.result replay.ensures; cleared = c.run-best.ensures.cleared }
