-- `weights::with_weighting` meets its contract.
use native.Mathlib.Omega.{arith}
use mathlib.Core.Path.{◌≡◌, refl}
use Prim.Native.Nat.{◌+◌, ◌*◌, ◌<◌}
use Rattle.tables.specs.Tables.{count_of}
use Rattle.weights.specs.Weights.{weightings, worth_size}
use Rattle.weights.proofs.Puts.{put-none, put_more}
use Rattle.weights.proofs.Knapsack.{weighted_more}
use borrow.Author.Rules.{rules}
use Rattle.weights.proofs.with_weighting.Goals as goal

pub loop-k-init : goal.loop-k-init
loop-k-init c = ((c.count-count.ensures, search rules), (put-none _ _ _, refl))

pub weight_of-weight-requires : goal.weight_of-weight-requires
weight_of-weight-requires c =
    let loop = c.loop-k in
    let pre = c.requires in
    (pre.0, (omega (arith, loop.invariant.0.0, c.loop-k-test.true), pre.1.0))

pub kept-requires : goal.kept-requires
kept-requires c =
    let loop-test = c.loop-k-test in
    let loop = c.loop-k in
    let pre = c.requires in
    omega (arith, pre.0.few, loop.invariant.0.0, loop-test.true)

pub overflow_add-next : goal.overflow_add-next
overflow_add-next c =
    let loop-test = c.loop-k-test in
    let loop = c.loop-k in
    let pre = c.requires in
    omega (arith, pre.0.few, pre.1.0, loop.invariant.0.0, loop-test.true)

pub bounds-next-k : goal.bounds-next-k
bounds-next-k c =
    let loop-test = c.loop-k-test in
    let loop = c.loop-k in
    let pre = c.requires in
    omega (arith, pre.0.few, pre.1.0, loop.invariant.0.0, loop-test.true)

pub loop-k-preserved : goal.loop-k-preserved
loop-k-preserved c =
    let kept = c.kept in
    let weight-of = c.weight_of-weight in
    let loop-test = c.loop-k-test in
    let loop = c.loop-k in
    let args = c.args in
    let pre = c.requires in
    let inv = loop.invariant in
    let worth = rw (kept.ensures, weight-of.ensures) at c.times.ensures in
    let low : loop.k * weightings + args.q < worth_size = omega (arith, pre.1.0, pre.0.few, inv.0.0, loop-test.true) in (
      (inv.0.0, search rules),
      (put_more inv.1.0 _ (λ i m e. omega arith) (omega (arith, pre.1.1.worth-length)) worth, inv.1.1),
    )

pub most_of-table-requires : goal.most_of-table-requires
most_of-table-requires c = (c.requires.0, c.requires.1.0)

pub put_most-requires : goal.put_most-requires
put_most-requires c =
    let loop = c.loop-k in
    let pre = c.requires in
    (pre.1.0, rw loop.invariant.1.1 pre.1.1.most-length)

pub returns : goal.returns
returns c =
    let most-of = c.most_of-table in
    let loop-test = c.loop-k-test in
    let loop = c.loop-k in
    let args = c.args in
    let pre = c.requires in
    let inv = loop.invariant in
    let e : loop.k ≡ count_of args.jobs.now = omega (arith, inv.0.0, inv.0.1, loop-test.false) in
    rw c.put_most.ensures.1 (weighted_more pre.0 pre.1.0 pre.1.1 most-of.ensures (rw e at inv.1.0)
    (rw inv.1.1 at c.put_most.ensures.0))
