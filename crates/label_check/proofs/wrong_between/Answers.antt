-- `label_check::wrong_between` meets its contract.
use native.Mathlib.Omega.{arith}
use Rattle.label_check.proofs.wrong_between.Goals as goal

pub returns-then-labels-to : goal.returns-then-labels-to
returns-then-labels-to c = λ l. absurd (omega (arith, c.if-labels-to.true))
