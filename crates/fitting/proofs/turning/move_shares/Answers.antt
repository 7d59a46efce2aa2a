-- `fitting::turning::move_shares` meets its contract.
use mathlib.Core.Path.{refl}
use lib.ListN.{length-set}
use borrow.Author.Rules.{rules}
use Rattle.fitting.proofs.turning.move_shares.Goals as goal

pub loop-i-init : goal.loop-i-init
loop-i-init c = refl

pub loop-i-preserved : goal.loop-i-preserved
loop-i-preserved c =
    let past = c in
    simp length-set past.loop-i.invariant

pub returns : goal.returns
returns c = c.loop-i.invariant
