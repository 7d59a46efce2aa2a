-- `marks::marks_of` meets its contract.
use Rattle.marks.proofs.Steps.{marked}
use Rattle.marks.proofs.marks_of.Goals as goal

pub returns : goal.returns
returns c =
    let later = c.all_later-later.ensures in
    marked c.args.jobs.now _ _ c.all_followed-followed.ensures (rw c.count.ensures at later)
