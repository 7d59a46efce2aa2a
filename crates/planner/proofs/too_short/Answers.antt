-- `planner::too_short` meets its contract.
use mathlib.Core.Path.{ap}
use Prim.Native.Nat.{ℕ}
use lib.Dec.{ltb}
use Rattle.card.specs.Card.{card_size}
use Rattle.planner.proofs.too_short.Goals as goal

pub returns : goal.returns
returns c = ap (λ (n : ℕ). ltb c.args.room (card_size n)) c.count.ensures
