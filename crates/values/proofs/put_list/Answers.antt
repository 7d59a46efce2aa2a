-- `values::put_list` meets its contract.
use native.Mathlib.Omega.{arith}
use mathlib.Core.Path.{◌≡◌}
use lib.ListN.{length}
use Rattle.weights.proofs.Puts.{put-none, put_more}
use borrow.Author.Rules.{rules}
use Rattle.values.proofs.put_list.Goals as goal

pub loop-x-init : goal.loop-x-init
loop-x-init c = put-none _ _ _

pub loop-x-preserved : goal.loop-x-preserved
loop-x-preserved c =
    let loop-test = c.loop-x-test in
    let pre = c.requires in
    let loop = c.loop-x in
    put_more loop.invariant _ (λ i m e. omega arith) (omega (arith, pre.0, pre.1, loop-test.true)) c.wide.ensures

pub returns : goal.returns
returns c =
    let loop = c.loop-x in
    let e : loop.x ≡ length c.args.list.now = omega (arith, loop.auto.x-end, c.loop-x-test.false) in
    rw e at loop.invariant
