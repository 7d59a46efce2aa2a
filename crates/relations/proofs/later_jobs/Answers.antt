-- `relations::later_jobs` meets its contract.
use mathlib.Core.Path.{◌≡◌, refl}
use native.Mathlib.Omega.{arith}
use Rattle.tables.specs.Tables.{count_of}
use Rattle.relations.proofs.Waiting.{laters-none, laters_more}
use Rattle.relations.proofs.later_jobs.Goals as goal

pub loop-i-init : goal.loop-i-init
loop-i-init c = laters-none _ _ refl

pub loop-i-preserved : goal.loop-i-preserved
loop-i-preserved c = laters_more c.loop-i.invariant (omega arith) c.later_of.ensures

pub returns : goal.returns
returns c =
    let loop = c.loop-i in
    let at = c in
    let e : loop.i ≡ count_of at.args.jobs.now = omega (arith, loop.auto.i-end, c.loop-i-test.false, at.count-n.ensures) in
    (rw e at loop.invariant).each
