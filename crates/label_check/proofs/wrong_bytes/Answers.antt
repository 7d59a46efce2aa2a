-- `label_check::wrong_bytes` meets its contract: after i bytes it is known whether one of them is wrong.
use mathlib.Core.Path.{refl, ap₂, ◌∙◌}
use mathlib.Core.Bool.{◌||◌}
use native.Mathlib.Numerals.{add-one}
use Rattle.counting.specs.Counting.{any}
use Rattle.label_check.proofs.wrong_bytes.Goals as goal

pub loop-b-init : goal.loop-b-init
unfolding any
loop-b-init c = refl

pub loop-b-preserved : goal.loop-b-preserved
unfolding any
loop-b-preserved c = rw add-one (ap₂ ◌||◌ c.loop-b.invariant c.outside-found.ensures)
