-- `weights::with_room` meets its contract.
use native.Mathlib.Omega.{arith}
use mathlib.Core.Path.{◌≡◌}
use Prim.Native.Nat.{ℕ, ◌+◌, ◌*◌}
use lib.ListN.{length-replicate}
use Rattle.weights.specs.Weights.{weightings}
use Rattle.weights.proofs.Puts.{put-none, put_more}
use borrow.Author.Rules.{rules}
use Rattle.weights.proofs.with_room.Goals as goal

pub loop-q-init : goal.loop-q-init
loop-q-init c = put-none _ _ _

pub overflow_cast-most : goal.overflow_cast-most
overflow_cast-most c =
    let loop-test = c.loop-q-test in
    let loop = c.loop-q in
    let args = c.args in
    let pre = c.requires in
    record {
      fits = omega (
        arith,
        pre.0.1 (args.x * weightings + loop.q)
            (omega (arith, pre.0.0, loop-test.true)),
      );
    }

pub overflow_add-next : goal.overflow_add-next
overflow_add-next c =
    let loop-test = c.loop-q-test in
    let loop = c.loop-q in
    let pre = c.requires in
    let product = c.times.ensures in
    record { fits = omega (arith, product, pre.1 loop.q loop-test.true) }

pub loop-q-preserved : goal.loop-q-preserved
loop-q-preserved c =
    let loop-test = c.loop-q-test in
    let loop = c.loop-q in
    let size = length-replicate {A = ℕ} weightings 0 in
    let product = c.times.ensures in
    put_more loop.invariant _ (λ k m e. omega arith) (omega (arith, loop-test.true)) (omega (arith, product))

pub returns : goal.returns
returns c =
    let e : c.loop-q.q ≡ weightings = omega (arith, c.loop-q.auto.q-end, c.loop-q-test.false) in
    rw e at c.loop-q.invariant.each
