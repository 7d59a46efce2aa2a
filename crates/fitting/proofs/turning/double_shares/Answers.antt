-- `fitting::turning::double_shares` meets its contract.
use mathlib.Core.Path.{refl}
use lib.ListN.{length-set}
use borrow.Author.Rules.{rules}
use Rattle.fitting.proofs.turning.double_shares.Goals as goal

pub loop-i-init : goal.loop-i-init
loop-i-init c = refl

pub loop-i-preserved : goal.loop-i-preserved
loop-i-preserved c = simp length-set c.loop-i.invariant

pub returns : goal.returns
returns c = c.loop-i.invariant
