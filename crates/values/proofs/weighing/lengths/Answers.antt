-- `values::weighing::lengths` meets its contract.
use native.Mathlib.Omega.{arith}
use borrow.Author.Rules.{rules}
use Rattle.values.proofs.weighing.lengths.Goals as goal

pub loop-k-init : goal.loop-k-init
loop-k-init c = c.count-count.ensures

pub kept-requires : goal.kept-requires
kept-requires c = omega (arith, c.requires, c.loop-k.invariant, c.loop-k-test.true)

pub bounds-next-k : goal.bounds-next-k
bounds-next-k c = omega (arith, c.requires, c.loop-k.invariant, c.loop-k-test.true)
