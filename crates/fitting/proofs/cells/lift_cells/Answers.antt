-- `fitting::cells::lift_cells` meets its contract.
use native.Mathlib.Omega.{arith}
use mathlib.Core.Path.{◌≡◌, ap, ◌∙◌}
use Prim.Native.Nat.{ℕ, ◌+◌, max}
use Rattle.weights.proofs.Puts.{put-none, put_more}
use borrow.Author.Rules.{rules}
use Rattle.fitting.proofs.cells.lift_cells.Goals as goal

pub loop-i-init : goal.loop-i-init
loop-i-init c = put-none _ _ _

pub loop-i-preserved : goal.loop-i-preserved
loop-i-preserved c =
    let loop = c.loop-i in
    let pre = c.requires in
    let args = c.args in
    let taken = c.loop-i-test.true in
    let old = loop.invariant.kept (args.from + loop.i) (λ k m e. omega (arith, pre.0.0)) in
    let value = c.max.ensures ∙ ap (λ (x : ℕ). max x args.least) old in
    put_more loop.invariant _ (λ k m e. omega arith) (omega (arith, pre.0.1, pre.1)) value

pub returns : goal.returns
returns c =
    let loop = c.loop-i in
    let e : loop.i ≡ c.args.n = omega (arith, loop.auto.i-end, c.loop-i-test.false) in
    rw e at loop.invariant
