-- `values::weighing::counted` meets its contract.
use native.Mathlib.Omega.{arith}
use borrow.Author.Rules.{rules}
use mathlib.Core.Path.{◌≡◌, refl}
use Prim.Native.Nat.{ℕ, ◌+◌, ◌<◌}
use lib.ListN.{length-replicate}
use Rattle.weights.specs.Weights.{widths}
use Rattle.weights.proofs.Puts.{put-none, put_more}
use Rattle.values.proofs.weighing.counted.Goals as goal

pub loop-x-init : goal.loop-x-init
loop-x-init c = put-none _ _ _

pub loop-x-preserved : goal.loop-x-preserved
loop-x-preserved c =
    let loop = c.loop-x in
    let pre = c.requires in
    let loop-test = c.loop-x-test in
    let size = length-replicate {A = ℕ} widths 0 in
    let low : loop.x < widths = omega (arith, pre, loop-test.true) in
    put_more loop.invariant _ (λ k m e. omega arith) (omega arith) refl

pub returns : goal.returns
returns c =
    let loop = c.loop-x in
    let args = c.args in
    let loop-test = c.loop-x-test in
    let e : loop.x ≡ args.modules + 1 = omega (arith, loop.auto.x-end, loop-test.false) in
    rw e at loop.invariant
