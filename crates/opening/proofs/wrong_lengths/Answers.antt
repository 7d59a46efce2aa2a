-- `opening::wrong_lengths` meets its contract.
use mathlib.Core.Path.{refl, ap}
use mathlib.Core.Bool.{not}
use borrow.Author.Tests.{eq-eqb, ne_eqb}
use Rattle.desk.specs.Checks.{wrong_lengths}
use Rattle.opening.proofs.wrong_lengths.Goals as goal

pub returns-then-assured-ceilings : goal.returns-then-assured-ceilings
unfolding wrong_lengths
returns-then-assured-ceilings c = rw (ne_eqb _ _ c.if-assured-ceilings.true) refl

pub returns-else-assured-ceilings : goal.returns-else-assured-ceilings
unfolding wrong_lengths
returns-else-assured-ceilings c = rw (eq-eqb _ _ c.if-assured-ceilings.false) (ap not c.in_range.ensures)
