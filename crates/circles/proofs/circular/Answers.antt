-- `circles::circular` meets its contract.
use mathlib.Core.Path.{refl, ◌∙◌}
use mathlib.Core.Bool.{true, false}
use native.Mathlib.Omega.{arith}
use lib.Pow.{pow_pos}
use Rattle.counting.proofs.Tests.{clash}
use Rattle.bits.proofs.Digits.{one_shl}
use Rattle.bits.proofs.Walks.{walk_less}
use Rattle.circles.proofs.Taking.{taken_none, taken_step, taken_stuck, taken_all}
use Rattle.circles.proofs.circular.Goals as goal

pub overflow_sub-left : goal.overflow_sub-left
overflow_sub-left c = rw (one_shl 32 c.count-count.result (omega (arith, c.count-count.ensures, c.requires))) (pow_pos c.count-count.result)

pub loop-left-init : goal.loop-left-init
loop-left-init c =
    let count = c.count-count in
    let shift = one_shl 32 count.result (omega (arith, count.ensures, c.requires)) in
    (count.ensures, rw (shift, count.ensures) (taken_none c.args.jobs.now))

pub next_of-j-requires : goal.next_of-j-requires
next_of-j-requires c = c.requires

pub returns-then-j-count : goal.returns-then-j-count
returns-then-j-count c =
    let inv = c.loop-left.invariant in
    let none = c.next_of-j.ensures.none (c.if-j-count.true ∙ inv.0) in
    record { yes = λ e. taken_stuck inv.1 none c.loop-left-test.true; no = λ e. clash true refl e }

pub without-left-requires : goal.without-left-requires
without-left-requires c = omega (arith, c.next_of-j.ensures.low, c.requires)

pub loop-left-smaller : goal.loop-left-smaller
loop-left-smaller c =
    let next = c.next_of-j.ensures in
    let may = next.some (omega (arith, next.low, c.if-j-count.false, c.loop-left.invariant.0)) in
    rw c.without-left.ensures (walk_less _ _ may.member)

pub loop-left-preserved : goal.loop-left-preserved
loop-left-preserved c =
    let next = c.next_of-j.ensures in
    let inv = c.loop-left.invariant in
    let may = next.some (omega (arith, next.low, c.if-j-count.false, inv.0)) in
    (inv.0, rw c.without-left.ensures (taken_step inv.1 may))

pub returns : goal.returns
returns c = record { yes = λ e. clash false e refl; no = λ e. taken_all c.loop-left.invariant.1 c.loop-left-test.false }
