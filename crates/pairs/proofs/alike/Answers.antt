-- `pairs::alike` meets its contract.
use mathlib.Core.Path.{refl}
use mathlib.Core.Bool.{false}
use borrow.Author.Tests.{eqb-true}
use Rattle.counting.proofs.Tests.{clash}
use Rattle.pairs.proofs.alike.Goals as goal

pub returns-then-need1-need2 : goal.returns-then-need1-need2
returns-then-need1-need2 c = λ e. clash false e refl

pub returns-then-minutes1-minutes2 : goal.returns-then-minutes1-minutes2
returns-then-minutes1-minutes2 c = λ e. clash false e refl

pub returns : goal.returns
returns c = λ e. (c.if-need1-need2.false, (c.if-minutes1-minutes2.false, eqb-true _ _ e))
