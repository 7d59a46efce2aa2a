-- `latest::start_by` meets its contract.
use mathlib.Core.Path.{◌∙◌}
use Rattle.latest.proofs.Rounds.{start_none, start_more}
use Rattle.latest.proofs.start_by.Goals as goal

pub loop-i-init : goal.loop-i-init
loop-i-init c =
    let a = c.args in (
      c.count-n.ensures,
      c.minutes-minutes.ensures,
      c.own_start-start.ensures ∙ start_none a.jobs.now a.departures.now a.starts.now a.j,
    )

pub loop-i-preserved : goal.loop-i-preserved
loop-i-preserved c =
    let loop = c.loop-i in
    let a = c.args in
    let waits = rw c.earlier.ensures at c.has-waits.ensures in (
      loop.invariant.0,
      loop.invariant.1,
      rw (c.sooner-start.ensures, waits, loop.invariant.1, loop.invariant.2) (start_more a.jobs.now a.departures.now a.starts.now loop.i a.j),
    )
