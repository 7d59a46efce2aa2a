-- `latest::latest_starts` meets its contract.
use mathlib.Core.Path.{◌≡◌}
use Prim.Native.Nat.{◌<◌}
use native.Mathlib.Omega.{arith}
use Rattle.figures.specs.Figures.{most_jobs}
use Rattle.tables.specs.Tables.{count_of}
use Rattle.latest.proofs.Rounds.{after_none, after_ample, after_more, after_all}
use Rattle.latest.proofs.latest_starts.Goals as goal

pub loop-k-init : goal.loop-k-init
loop-k-init c =
    let a = c.args in (
      c.count-n.ensures,
      λ fit. after_none a.jobs.now a.departures.now fit c.own_starts-starts.result.of c.own_starts-starts.ensures,
    )

pub next_starts-starts-requires : goal.next_starts-starts-requires
next_starts-starts-requires c =
    let loop = c.loop-k in
    let a = c.args in
    let pre = c.requires in
    let low : loop.k < most_jobs = omega (arith, loop.invariant.0, c.loop-k-test.true, pre.0.few) in
    (pre.0, pre.1, after_ample a.jobs.now a.departures.now pre.0 loop.k loop.starts.of low (loop.invariant.1 pre.0))

pub loop-k-preserved : goal.loop-k-preserved
loop-k-preserved c =
    let loop = c.loop-k in
    let a = c.args in
    let low : loop.k < most_jobs = omega (arith, loop.invariant.0, c.loop-k-test.true, c.requires.0.few) in (
      loop.invariant.0,
      λ fit. after_more a.jobs.now a.departures.now fit loop.k loop.starts.of c.next_starts-starts.result.of low (loop.invariant.1 fit)
          c.next_starts-starts.ensures,
    )

pub returns : goal.returns
returns c =
    let loop = c.loop-k in
    let a = c.args in
    let fit = c.requires.0 in
    let e : loop.k ≡ count_of a.jobs.now = omega (arith, loop.invariant.0, c.loop-k-test.false) in
    after_all a.jobs.now a.departures.now fit loop.starts.of (rw e at loop.invariant.1 fit)
