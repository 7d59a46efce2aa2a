-- `fitting::cells::raise_cells` meets its contract.
use native.Mathlib.Omega.{arith}
use mathlib.Core.Path.{◌≡◌, ap, ◌∙◌}
use Prim.Native.Nat.{ℕ, ◌+◌, max}
use lib.ListN.{get_or}
use Rattle.weights.proofs.Puts.{put-none, put_more}
use Rattle.fitting.specs.Fitting.{row_at}
use borrow.Author.Rules.{rules}
use Rattle.fitting.proofs.cells.raise_cells.Goals as goal

pub loop-i-init : goal.loop-i-init
loop-i-init c = put-none _ _ _

pub overflow_add-v : goal.overflow_add-v
overflow_add-v c =
    let loop = c.loop-i in
    let pre = c.requires in
    let args = c.args in
    let taken = c.loop-i-test.true in
    let low = loop.invariant.kept (args.lower + loop.i) (λ k m e. omega (arith, pre.0.0)) in
    record { fits = omega (arith, low, pre.1.1.0, pre.1.1.1 loop.i taken) }

pub loop-i-preserved : goal.loop-i-preserved
loop-i-preserved c =
    let loop = c.loop-i in
    let pre = c.requires in
    let args = c.args in
    let taken = c.loop-i-test.true in
    let high = loop.invariant.kept (args.upper + loop.i) (λ k m e. omega (arith, pre.0.0)) in
    let low = loop.invariant.kept (args.lower + loop.i) (λ k m e. omega (arith, pre.0.0)) in
    let value = c.max.ensures ∙ ap (λ (x : ℕ). max x (args.v + get_or loop.slate (args.lower + loop.i) 0)) high
    ∙ ap (λ (x : ℕ). max (row_at args.slate.now args.upper loop.i) (args.v + x)) low in
    put_more loop.invariant _ (λ k m e. omega arith) (omega (arith, pre.0.1, pre.1)) value

pub returns : goal.returns
returns c =
    let loop = c.loop-i in
    let e : loop.i ≡ c.args.n = omega (arith, loop.auto.i-end, c.loop-i-test.false) in
    rw e at loop.invariant
