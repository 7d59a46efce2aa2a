-- `lent::look_at` meets its contract: what the look answers, without the desk.
use mathlib.Core.Path.{refl}
use Rattle.lent.proofs.look_at.Goals as goal

pub returns : goal.returns
returns c = rw (← c.look-answer.ensures) refl
