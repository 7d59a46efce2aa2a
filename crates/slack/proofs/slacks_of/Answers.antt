-- `slack::slacks_of` meets its contract.
use mathlib.Core.Path.{◌∙◌}
use native.Mathlib.Omega.{arith}
use Rattle.slack.proofs.Given.{slacks_are}
use Rattle.slack.proofs.slacks_of.Goals as goal

pub entries-requires : goal.entries-requires
entries-requires c =
    let n = c.count.ensures in
    let low = c.planned_starts-planned.ensures.starts.low in
    (omega (arith, n, c.requires.0.few), λ j l. low j (omega (arith, n)))

pub returns : goal.returns
returns c =
    let a = c.args in
    let plan = c.planned_starts-planned in
    let last = c.latest_starts-last in
    let set = c.implied_marks-marks in
    let e = rw c.count.ensures at c.entries.ensures in
    let r = slacks_are a.jobs.now a.departures.now last.result.of plan.result.of set.result.of last.ensures
    plan.ensures.starts set.ensures in
    record { answer = (r.0, r.1, e ∙ r.2); cleared = plan.ensures.cleared }
