-- `marks::implied_of` meets its contract.
use mathlib.Core.Path.{◌∙◌}
use Rattle.marks.proofs.Steps.{implied_is}
use Rattle.marks.proofs.implied_of.Goals as goal

pub returns : goal.returns
returns c =
    let a = c.args in
    rw (c.count.ensures, c.earlier.ensures) at c.below.ensures
    ∙ implied_is a.jobs.now a.j c.followed_by.result c.reached-others.result c.followed_by.ensures c.reached-others.ensures
