-- `search::begin` meets its contract.
use Rattle.search.proofs.begin.Goals as goal

pub put_lanes-requires : goal.put_lanes-requires
put_lanes-requires c = (c.prepare.ensures, c.requires.0)
