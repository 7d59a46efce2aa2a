-- `weights::put_most` meets its contract.
use native.Mathlib.Omega.{arith}
use mathlib.Core.Path.{◌≡◌, refl}
use Rattle.weights.specs.Weights.{widths}
use Rattle.weights.proofs.Puts.{put-none, put_more}
use borrow.Author.Rules.{rules}
use Rattle.weights.proofs.put_most.Goals as goal

pub loop-x-init : goal.loop-x-init
loop-x-init c = (put-none _ _ _, refl)

pub loop-x-preserved : goal.loop-x-preserved
loop-x-preserved c =
    let loop = c.loop-x in
    let pre = c.requires in
    ((put_more loop.invariant.0 _ (λ i m e. omega arith) (omega (arith, pre.1)) refl, loop.invariant.1))

pub returns : goal.returns
returns c =
    let loop = c.loop-x in
    let e : loop.x ≡ widths = omega (arith, loop.auto.x-end, c.loop-x-test.false) in
    rw e at loop.invariant
