-- `occupancy::work_of` meets its contract.
use mathlib.Core.Path.{◌≡◌, refl}
use Prim.Native.Nat.{◌*◌}
use native.Mathlib.Omega.{arith}
use Rattle.counting.specs.Counting.{sum}
use Rattle.counting.proofs.Loops.{sum_more}
use Rattle.tables.specs.Tables.{need_at, minutes_at, count_of}
use Rattle.occupancy.specs.Occupancy.{work_in}
use Rattle.occupancy.proofs.Shares.{job-work}
use Rattle.occupancy.proofs.work_of.Goals as goal

pub loop-i-init : goal.loop-i-init
unfolding sum
loop-i-init c = (c.count-count.ensures, (refl, omega arith))

pub need-requires : goal.need-requires
need-requires c = omega (arith, c.loop-i.invariant.0, c.loop-i-test.true, c.requires.few)

pub minutes-requires : goal.minutes-requires
minutes-requires c = omega (arith, c.loop-i.invariant.0, c.loop-i-test.true, c.requires.few)

pub overflow_add-total : goal.overflow_add-total
overflow_add-total c =
    let at = c in
    let loop = at.loop-i in
    let start = at in
    let small = job-work start.args.jobs.now start.requires loop.i (omega (arith, loop.invariant.0, at.loop-i-test.true)) in
    let product = rw (c.need.ensures, c.minutes.ensures) at c.times-total.ensures in
    record { fits = omega (arith, loop.invariant.0, loop.invariant.1.1, at.loop-i-test.true, start.requires.few) }

pub loop-i-preserved : goal.loop-i-preserved
loop-i-preserved c =
    let at = c in
    let loop = at.loop-i in
    let start = at in
    let small = job-work start.args.jobs.now start.requires loop.i (omega (arith, loop.invariant.0, at.loop-i-test.true)) in
    let product = rw (c.need.ensures, c.minutes.ensures) at c.times-total.ensures in
    let more = sum_more (λ k. need_at start.args.jobs.now k * minutes_at start.args.jobs.now k) loop.i _ loop.invariant.1.0 in
    (loop.invariant.0, (rw product more, omega (arith, loop.invariant.1.1)))

pub returns : goal.returns
unfolding work_in
returns c =
    let loop = c.loop-i in
    let e : loop.i ≡ count_of c.args.jobs.now = omega (arith, loop.invariant.0, c.loop-i-test.false) in
    rw e at loop.invariant.1.0
