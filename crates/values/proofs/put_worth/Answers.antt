-- `values::put_worth` meets its contract.
use native.Mathlib.Omega.{arith}
use borrow.Author.Rules.{rules}
use mathlib.Core.Path.{◌≡◌}
use Rattle.weights.proofs.Puts.{put-none, put_more}
use Rattle.figures.specs.Figures.{most_jobs}
use Rattle.values.proofs.put_worth.Goals as goal

pub loop-k-init : goal.loop-k-init
loop-k-init c = put-none _ _ _

pub loop-k-preserved : goal.loop-k-preserved
loop-k-preserved c =
    let loop = c.loop-k in
    let pre = c.requires in
    let times = c.times in
    put_more loop.invariant _ (λ i m e. omega arith) (omega (arith, pre)) times.ensures

pub returns : goal.returns
returns c =
    let loop = c.loop-k in
    let loop-test = c.loop-k-test in
    let e : loop.k ≡ most_jobs = omega (arith, loop.auto.k-end, loop-test.false) in
    rw e at loop.invariant
