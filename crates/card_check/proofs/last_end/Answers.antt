-- `card_check::last_end` meets its contract.
use mathlib.Core.Path.{refl, ◌∙◌}
use native.Mathlib.Numerals.{add-one}
use Rattle.counting.specs.Counting.{largest}
use Rattle.card_check.proofs.last_end.Goals as goal

pub loop-j-init : goal.loop-j-init
unfolding largest
loop-j-init c = refl

pub loop-j-preserved : goal.loop-j-preserved
unfolding largest
loop-j-preserved c = rw (add-one) (c.max-last.ensures ∙ rw (c.loop-j.invariant, c.finish.ensures.0) refl)
