-- `relations::row_of` meets its contract.
use mathlib.Core.Path.{◌≡◌}
use native.Mathlib.Omega.{arith}
use Rattle.tables.specs.Tables.{count_of}
use Rattle.relations.proofs.Pairs.{row-none, row_more}
use Rattle.relations.proofs.row_of.Goals as goal

pub loop-i-init : goal.loop-i-init
loop-i-init c =
    let a = c.args in
    row-none a.jobs.now a.later.now a.j c.requires.1.1 c.requires.0

pub loop-i-preserved : goal.loop-i-preserved
loop-i-preserved c =
    let tested = c in
    let loop = tested.loop-i in
    let start = tested in
    let a = start.args in row_more a.jobs.now a.later.now a.j start.requires.1.1 start.requires.0
    loop.i loop.row c.with_pair-row.result (omega (arith, tested.loop-i-test.true, tested.count-n.ensures))
    loop.invariant c.with_pair-row.ensures

pub returns : goal.returns
returns c =
    let loop = c.loop-i in
    let at = c in
    let e : loop.i ≡ count_of at.args.jobs.now = omega (arith, loop.auto.i-end, c.loop-i-test.false, at.count-n.ensures) in
    rw e at loop.invariant
