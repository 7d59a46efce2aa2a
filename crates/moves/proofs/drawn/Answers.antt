-- `moves::drawn` meets its contract.
use native.Mathlib.Nat.{mod-lt}
use Rattle.moves.proofs.drawn.Goals as goal

pub returns : goal.returns
returns c = mod-lt _ c.requires
