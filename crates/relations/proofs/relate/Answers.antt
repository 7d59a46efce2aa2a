-- `relations::relate` meets its contract.
use mathlib.Core.Path.{◌≡◌, refl}
use native.Mathlib.Omega.{arith}
use Rattle.tables.specs.Tables.{count_of}
use Rattle.relations.proofs.Pairs.{related-none, related_more}
use Rattle.relations.proofs.relate.Goals as goal

pub loop-j-init : goal.loop-j-init
loop-j-init c = related-none _ refl

pub loop-j-preserved : goal.loop-j-preserved
loop-j-preserved c =
    let tested = c in
    let loop = tested.loop-j in
    let start = tested in rw c.with_row-all.ensures (related_more loop.all.of loop.j c.row_of-row.result loop.invariant.size
    (omega (arith, tested.loop-j-test.true, tested.count-n.ensures, start.requires)) loop.invariant c.row_of-row.ensures)

pub returns : goal.returns
returns c =
    let loop = c.loop-j in
    let at = c in
    let e : loop.j ≡ count_of at.args.jobs.now = omega (arith, loop.auto.j-end, c.loop-j-test.false, at.count-n.ensures) in
    (rw e at loop.invariant).each
