-- `slack::no_slacks` meets its contract.
use mathlib.Core.Path.{ap}
use lib.ListN.{replicate}
use Rattle.figures.specs.Figures.{most_jobs}
use Rattle.slack.specs.declared.JobSlack.{JobSlack}
use Rattle.slack.proofs.no_slacks.Goals as goal

pub returns : goal.returns
returns c =
    ap (λ (e : JobSlack). record { refusal = c.args.refusal; jobs = replicate most_jobs e; count = 0 }) c.no_slack-jobs.ensures
