-- `fitting::paying::enter` meets its contract.
use mathlib.Core.Path.{◌∙◌}
use lib.ListN.{length-set}
use Rattle.fitting.proofs.paying.enter.Goals as goal

pub returns : goal.returns
returns c = simp length-set (c.spend.ensures ∙ c.leave_up_to.ensures)
