-- `opening::wrong_figures` meets its contract.
use mathlib.Core.Path.{refl}
use Rattle.desk.specs.Checks.{wrong_figures}
use Rattle.opening.proofs.wrong_figures.Goals as goal

pub returns-then-not-in_range : goal.returns-then-not-in_range
unfolding wrong_figures
returns-then-not-in_range c = rw (← c.in_range.ensures, c.if-not-in_range.true) refl

pub returns-else-not-in_range : goal.returns-else-not-in_range
unfolding wrong_figures
returns-else-not-in_range c = rw (← c.in_range.ensures, c.if-not-in_range.false) c.some_pair_wrong.ensures
