-- `pairs::may_swap` meets its contract.
use mathlib.Core.Path.{refl}
use mathlib.Core.Bool.{false}
use borrow.Author.Tests.{eqb-true}
use Rattle.counting.proofs.Tests.{clash}
use Rattle.pairs.proofs.may_swap.Goals as goal

pub returns-then-need1-need2 : goal.returns-then-need1-need2
returns-then-need1-need2 c = λ e. clash false e refl

pub returns : goal.returns
returns c = λ e. (c.if-need1-need2.false, eqb-true _ _ e)
