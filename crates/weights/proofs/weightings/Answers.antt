-- `weights::weightings` meets its contract.
use native.Mathlib.Omega.{arith}
use mathlib.Core.Path.{◌≡◌, subst}
use Prim.Native.Nat.{ℕ}
use Rattle.weights.specs.Weights.{weightings, WeightedTo}
use Rattle.weights.proofs.Knapsack.{weighted-none, weighted_all}
use borrow.Author.Rules.{rules}
use Rattle.weights.proofs.weightings.Goals as goal

pub loop-q-init : goal.loop-q-init
loop-q-init c = weighted-none _

pub with_weighting-all-requires : goal.with_weighting-all-requires
with_weighting-all-requires c = (c.requires, (c.loop-q-test.true, c.loop-q.invariant))

pub loop-q-preserved : goal.loop-q-preserved
loop-q-preserved c = c.with_weighting-all.ensures

pub returns : goal.returns
returns c =
    let args = c.args in
    let loop = c.loop-q in
    let e : loop.q ≡ weightings = omega (arith, loop.auto.q-end, c.loop-q-test.false) in
    weighted_all (subst (λ (n : ℕ). WeightedTo args.jobs.now loop.all.worth loop.all.most n) e loop.invariant)
