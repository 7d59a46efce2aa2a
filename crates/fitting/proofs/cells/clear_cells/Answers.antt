-- `fitting::cells::clear_cells` meets its contract.
use native.Mathlib.Omega.{arith}
use mathlib.Core.Path.{◌≡◌, refl, subst}
use Prim.Native.Nat.{ℕ, ◌+◌}
use lib.ListN.{set}
use Rattle.weights.specs.Weights.{Put}
use Rattle.weights.proofs.Puts.{put-none, put_more}
use borrow.Author.Rules.{rules}
use Rattle.fitting.proofs.cells.clear_cells.Goals as goal

pub loop-i-init : goal.loop-i-init
loop-i-init c = put-none _ _ _

pub loop-i-preserved : goal.loop-i-preserved
loop-i-preserved c =
    let loop = c.loop-i in
    let pre = c.requires in
    let e : 0 + loop.i ≡ loop.i = omega arith in subst (λ (p : ℕ). Put (λ x. 0 + x) c.args.slate.now (set loop.slate p 0) (loop.i + 1) (λ x. 0)) e
    (put_more loop.invariant 0 (λ k m x. omega arith) (omega (arith, pre.0, pre.1, c.loop-i-test.true)) refl)

pub returns : goal.returns
returns c =
    let loop = c.loop-i in
    let e : loop.i ≡ c.args.n = omega (arith, loop.auto.i-end, c.loop-i-test.false) in
    rw e at loop.invariant
