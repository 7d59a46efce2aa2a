-- `values::weighing::weights_in` meets its contract.
use native.Mathlib.Omega.{arith}
use mathlib.Core.Path.{◌≡◌}
use Prim.Native.Nat.{ℕ, ◌<◌}
use lib.ListN.{length-replicate}
use Rattle.figures.specs.Figures.{most_jobs}
use Rattle.tables.specs.Tables.{count_of}
use Rattle.weights.proofs.Puts.{put-none, put_more}
use borrow.Author.Rules.{rules}
use Rattle.values.proofs.weighing.weights_in.Goals as goal

pub loop-k-init : goal.loop-k-init
loop-k-init c = ((c.count-count.ensures, search rules), put-none _ _ _)

pub weight_of-requires : goal.weight_of-requires
weight_of-requires c =
    let loop = c.loop-k in
    let pre = c.requires in
    (pre.0, (omega (arith, loop.invariant.0, c.loop-k-test.true), pre.1))

pub bounds-next-k : goal.bounds-next-k
bounds-next-k c =
    let loop-test = c.loop-k-test in
    let loop = c.loop-k in
    let pre = c.requires in
    omega (arith, pre.0.few, loop.invariant.0, loop-test.true)

pub loop-k-preserved : goal.loop-k-preserved
loop-k-preserved c =
    let loop-test = c.loop-k-test in
    let pre = c.requires in
    let loop = c.loop-k in
    let size = length-replicate {A = ℕ} most_jobs 0 in
    let low : loop.k < most_jobs = omega (arith, pre.0.few, loop.invariant.0, loop-test.true) in
    ((loop.invariant.0.0, search rules), put_more loop.invariant.1 _ (λ i m e. omega arith) (omega arith) c.weight_of.ensures)

pub returns : goal.returns
returns c =
    let loop = c.loop-k in
    let e : loop.k ≡ count_of c.args.jobs.now = omega (arith, loop.invariant.0, c.loop-k-test.false) in
    rw e at loop.invariant.1
