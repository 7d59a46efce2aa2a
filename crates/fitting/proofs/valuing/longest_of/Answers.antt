-- `fitting::valuing::longest_of` meets its contract.
use native.Mathlib.Omega.{arith}
use borrow.Author.Rules.{rules}
use Rattle.fitting.proofs.valuing.longest_of.Goals as goal

pub loop-k-init : goal.loop-k-init
loop-k-init c = ((c.count-count.ensures, search rules), search rules)

pub kept-requires : goal.kept-requires
kept-requires c = omega (arith, c.requires.few, c.loop-k.invariant.0, c.loop-k-test.true)

pub loop-k-preserved : goal.loop-k-preserved
loop-k-preserved c =
    ((c.loop-k.invariant.0.0, search rules), omega (arith, c.max-longest.ensures, c.loop-k.invariant.1))

pub returns : goal.returns
returns c = c.loop-k.invariant.1
