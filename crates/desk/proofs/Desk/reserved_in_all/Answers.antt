-- `desk::Desk::reserved_in_all` meets its contract: the total is that of the places passed, each within the limit.
use mathlib.Core.Path.{refl, ap, ◌∙◌}
use Prim.Native.Nat.{ℕ, ◌+◌, ◌≤◌, ◌<◌}
use native.Mathlib.Omega.{arith}
use Rattle.counting.specs.Counting.{sum}
use Rattle.counting.proofs.Sums.{sum_most}
use Rattle.counting.proofs.Ranges.{every-at}
use Rattle.desk.specs.Desk.{most_power, most_controllers, reserved}
use Rattle.desk.specs.Checks.{place_ok_at}
use Rattle.desk.proofs.Sound.{place_says, place_small}
use Rattle.counting.proofs.Loops.{sum_more}
use Rattle.desk.proofs.Desk.reserved_in_all.Goals as goal

pub loop-i-init : goal.loop-i-init
unfolding sum
loop-i-init c = refl

pub overflow_add-total : goal.overflow_add-total
overflow_add-total c =
    let d = c.args.self in
    let p = c.requires in
    let small : (i : ℕ) → i < d.count → reserved d i ≤ most_power = λ i l.
    let m = p.1 in
    omega (arith, place_small d i (place_says d i (every-at most_controllers (place_ok_at d) p.2 i (omega (arith, p.0))))) in
    let t = c.loop-i.invariant in
    let s = sum_most c.loop-i.i (reserved d) most_power (λ k h. small k (omega arith)) in
    let r = c.reserved_at-total.ensures in
    omega (arith, p.0, small c.loop-i.i c.loop-i-test.true)

pub loop-i-preserved : goal.loop-i-preserved
loop-i-preserved c =
    ap (λ (r : ℕ). c.loop-i.total + r) c.reserved_at-total.ensures
    ∙ sum_more (reserved c.args.self) c.loop-i.i c.loop-i.total c.loop-i.invariant
