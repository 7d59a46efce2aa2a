-- `marks::followed_by` meets its contract.
use Rattle.marks.proofs.Steps.{within_none, within_more}
use Rattle.marks.proofs.followed_by.Goals as goal

pub loop-k-init : goal.loop-k-init
loop-k-init c =
    let a = c.args in
    rw c.earlier-set.ensures (within_none a.jobs.now a.j)

pub loop-k-preserved : goal.loop-k-preserved
loop-k-preserved c =
    let loop = c.loop-k in
    let a = c.args in
    within_more a.jobs.now a.j loop.k loop.set c.further-set.result loop.invariant c.further-set.ensures
