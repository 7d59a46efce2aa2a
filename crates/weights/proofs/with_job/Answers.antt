-- `weights::with_job` meets its contract.
use native.Mathlib.Omega.{arith}
use mathlib.Core.Path.{◌≡◌}
use Prim.Native.Nat.{ℕ, ◌+◌, ◌<◌}
use lib.ListN.{length-replicate}
use Rattle.weights.specs.Weights.{widths}
use Rattle.weights.proofs.Puts.{put-none, put_more}
use borrow.Author.Rules.{rules}
use Rattle.weights.proofs.with_job.Goals as goal

pub loop-x-init : goal.loop-x-init
loop-x-init c = put-none _ _ _

pub most_with-requires : goal.most_with-requires
most_with-requires c =
    let pre = c.requires in
    let loop-test = c.loop-x-test in
    (pre.0, (pre.1.0, omega (arith, pre.1.1, loop-test.true)))

pub loop-x-preserved : goal.loop-x-preserved
loop-x-preserved c =
    let loop = c.loop-x in
    let pre = c.requires in
    let loop-test = c.loop-x-test in
    let size = length-replicate {A = ℕ} widths 0 in
    let low : loop.x < widths = omega (arith, pre.1.1, loop-test.true) in
    put_more loop.invariant _ (λ k m e. omega arith) (omega arith) c.most_with.ensures

pub returns : goal.returns
returns c =
    let loop = c.loop-x in
    let args = c.args in
    let e : loop.x ≡ args.modules + 1 = omega (arith, loop.auto.x-end, c.loop-x-test.false) in
    rw e at loop.invariant
