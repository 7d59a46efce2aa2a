-- `fitting::paying::put_credits` meets its contract.
use Rattle.fitting.proofs.paying.put_credits.Goals as goal

pub returns : goal.returns
returns c = c.loop-count.invariant
