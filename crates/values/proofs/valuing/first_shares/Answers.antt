-- `values::valuing::first_shares` meets its contract.
use native.Mathlib.Omega.{arith}
use borrow.Author.Rules.{rules}
use Rattle.values.proofs.valuing.first_shares.Goals as goal

pub loop-k-init : goal.loop-k-init
loop-k-init c = c.count-count.ensures

pub kept-requires : goal.kept-requires
kept-requires c = omega (arith, c.requires, c.loop-k.invariant, c.loop-k-test.true)

pub bounds-next-k : goal.bounds-next-k
bounds-next-k c =
    let loop-test = c.loop-k-test in
    let loop = c.loop-k in
    let pre = c.requires in
    omega (arith, pre, loop.invariant, loop-test.true)
