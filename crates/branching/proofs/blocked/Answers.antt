-- `branching::blocked` meets its contract.
use mathlib.Core.Path.{refl}
use mathlib.Core.Bool.{false}
use Rattle.counting.proofs.Tests.{clash}
use Rattle.branching.proofs.blocked.Goals as goal

pub returns-then-placed-eq0 : goal.returns-then-placed-eq0
returns-then-placed-eq0 c = λ e. clash false e refl

pub returns-then-start-part : goal.returns-then-start-part
returns-then-start-part c = λ e. clash false e refl

pub returns : goal.returns
returns c = λ e.
    let behind = c.left_behind in
    (behind.result, behind.ensures.0, behind.ensures.1, c.ends_in_block.ensures e)
