-- `card_check::times_named` meets its contract.
use mathlib.Core.Path.{refl, ◌∙◌, ap}
use Prim.Native.Nat.{ℕ, ◌+◌}
use native.Mathlib.Omega.{arith}
use Rattle.counting.specs.Counting.{only, sum}
use Rattle.counting.proofs.Counts.{count-le}
use Rattle.counting.proofs.Loops.{sum_more}
use Rattle.counting.proofs.Tests.{only-le}
use Rattle.card_check.proofs.times_named.Invariants.{names}
use Rattle.card_check.proofs.times_named.Goals as goal

pub loop-k-init : goal.loop-k-init
unfolding sum
loop-k-init c = refl

pub overflow_add-times : goal.overflow_add-times
overflow_add-times c =
    let a = c.args in
    let p = names a.card.now a.n a.j in
    record { fits = omega (arith, c.named-times.ensures, only-le (p c.loop-k.k) 1, c.loop-k.invariant, count-le c.loop-k.k p) }

pub loop-k-preserved : goal.loop-k-preserved
loop-k-preserved c =
    let a = c.args in
    let p = names a.card.now a.n a.j in ap (λ (x : ℕ). c.loop-k.times + x) c.named-times.ensures ∙ sum_more (λ k. only (p k) 1) c.loop-k.k c.loop-k.times c.loop-k.invariant
