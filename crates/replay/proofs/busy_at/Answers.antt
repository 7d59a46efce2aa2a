-- `replay::busy_at` meets its contract.
use mathlib.Core.Path.{refl, ap, ◌∙◌}
use Prim.Native.Nat.{ℕ, ◌+◌}
use lib.Dec.{ltb}
use lib.Bits.{bit_or}
use lib.ListN.{get_or}
use Rattle.counting.specs.Counting.{only}
use Rattle.replay.specs.Slots.{union}
use Rattle.replay.proofs.Modules.{union_more}
use Rattle.replay.proofs.busy_at.Goals as goal

pub loop-i-init : goal.loop-i-init
unfolding union
loop-i-init c = refl

pub loop-i-preserved : goal.loop-i-preserved
loop-i-preserved c =
    let loop = c.loop-i in
    let a = c.args in
    let i = loop.i in
    let f : ℕ → ℕ = λ i. only (ltb a.t (get_or a.slots.end i 0 + a.rest)) (get_or a.slots.modules i 0) in
    c.with_busy-set.ensures ∙ ap (λ (x : ℕ). bit_or x (f i)) loop.invariant ∙ union_more i f
