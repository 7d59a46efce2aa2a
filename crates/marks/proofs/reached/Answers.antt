-- `marks::reached` meets its contract.
use Rattle.marks.proofs.Steps.{reached-none, reached_more}
use Rattle.marks.proofs.reached.Goals as goal

pub loop-a-init : goal.loop-a-init
loop-a-init c =
    let a = c.args in
    reached-none a.jobs.now a.set

pub loop-a-preserved : goal.loop-a-preserved
loop-a-preserved c =
    let loop = c.loop-a in
    let a = c.args in
    rw (c.with_earlier-all.ensures, c.earlier.ensures) (reached_more a.jobs.now a.set loop.a loop.all loop.invariant)
