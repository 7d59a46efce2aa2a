-- `desk::Desk::not_of_desk` meets its contract.
use mathlib.Core.Path.{refl, ap}
use mathlib.Core.Bool.{not}
use borrow.Author.Tests.{lt-ltb, le-ltb, le-leb}
use Rattle.desk.specs.Checks.{not_of_desk}
use Rattle.desk.proofs.Desk.not_of_desk.Goals as goal

pub returns-then-self-controller : goal.returns-then-self-controller
unfolding not_of_desk
returns-then-self-controller c = rw (le-leb _ _ c.if-self-controller.true, le-ltb _ _ c.if-self-controller.true) refl

pub returns-else-self-controller : goal.returns-else-self-controller
unfolding not_of_desk
returns-else-self-controller c = rw (lt-ltb _ _ c.if-self-controller.false) (ap not c.ok.ensures)
