-- `search::bounded` meets its contract.
use Rattle.search.proofs.Whole.{bounded_within}
use Rattle.search.proofs.bounded.Goals as goal

pub bound_below-bound-requires : goal.bound_below-bound-requires
bound_below-bound-requires c = (c.requires.0, (c.requires.1.0, c.requires.1.1.low))

pub shape_of-memory : goal.shape_of-memory
shape_of-memory c = c.bound_below-bound.auto.memory

pub returns : goal.returns
returns c = bounded_within c.requires.1.1 c.bound_below-bound.ensures
