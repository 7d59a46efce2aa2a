-- `marks::further` meets its contract.
use Rattle.marks.proofs.Steps.{further_is}
use Rattle.marks.proofs.further.Goals as goal

pub returns : goal.returns
returns c =
    let a = c.args in
    rw c.earlier.ensures (further_is a.jobs.now a.set a.j c.reached.result c.reached.ensures)
