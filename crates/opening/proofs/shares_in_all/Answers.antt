-- `opening::shares_in_all` meets its contract: the total is that of the shares passed, each at most the largest limit.
use mathlib.Core.Path.{refl}
use Prim.Native.Nat.{ℕ}
use native.Mathlib.Omega.{arith}
use lib.ListN.{get_or}
use Rattle.counting.specs.Counting.{sum}
use Rattle.counting.proofs.Sums.{sum_most}
use Rattle.desk.specs.Desk.{most_power}
use Rattle.counting.proofs.Loops.{sum_more}
use Rattle.opening.proofs.shares_in_all.Goals as goal

pub loop-share-init : goal.loop-share-init
unfolding sum
loop-share-init c = refl

pub overflow_add-total : goal.overflow_add-total
overflow_add-total c =
    let share : ℕ → ℕ = λ i. get_or c.args.assured.now i 0 in
    let small = c.requires.1 in
    let t = c.loop-share.invariant in
    let s = sum_most c.loop-share.share-index share most_power (λ k h. small k (omega arith)) in
    omega (arith, small c.loop-share.share-index c.loop-share-test.true)

pub loop-share-preserved : goal.loop-share-preserved
loop-share-preserved c =
    sum_more (λ k. get_or c.args.assured.now k 0) c.loop-share.share-index c.loop-share.total c.loop-share.invariant
