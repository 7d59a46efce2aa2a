-- `replay::with_slot` meets its contract.
use mathlib.Core.Path.{refl}
use Rattle.replay.specs.Slots.{with_slot}
use Rattle.replay.proofs.with_slot.Goals as goal

pub returns : goal.returns
unfolding with_slot
returns c = refl
