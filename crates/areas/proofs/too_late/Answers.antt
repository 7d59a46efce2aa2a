-- `areas::too_late` meets its contract.
use mathlib.Core.Path.{refl, subst}
use mathlib.Core.Bool.{false}
use Prim.Native.Nat.{ℕ}
use native.Mathlib.Omega.{arith}
use native.Mathlib.Nat.{pos_of_ne-zero}
use Rattle.counting.proofs.Tests.{clash}
use Rattle.bits.proofs.Walks.{walk_first, walk_next, walk_less}
use Rattle.areas.specs.Areas.{TooLate}
use Rattle.areas.proofs.too_late.Goals as goal

pub returns-then-close : goal.returns-then-close
returns-then-close c = λ e. clash false e refl

pub below-requires : goal.below-requires
below-requires c = omega (arith, c.count.ensures, c.requires.0.few)

pub loop-k-init : goal.loop-k-init
loop-k-init c =
    let past = c in
    (omega (arith, past.closing-close.ensures, past.if-close.false), rw (c.into_iter-k-iterator.ensures.into_iter_gives, c.members-k-items.ensures, c.below.ensures, c.count.ensures) (walk_first _ _))

pub late_job-requires : goal.late_job-requires
late_job-requires c =
    let pre = c.requires in
    let inv = c.loop-k.invariant in
    (pre, (inv.1.below _ c.in-Some.ensures.steps.1, omega (arith, inv.0)))

pub returns-then-late_job : goal.returns-then-late_job
returns-then-late_job c = λ e.
    let loop = c.loop-k in
    let a = c.args in
    subst (λ (C : ℕ). TooLate a.jobs.now a.prepared.now a.part.now a.target C) loop.invariant.0 (c.late_job.ensures c.if-late_job.true)

pub loop-k-preserved : goal.loop-k-preserved
loop-k-preserved c =
    let low = c.in-Some.ensures.steps in
    let inv = c.loop-k.invariant in
    (inv.0, rw (c.in-Some.ensures.steps.3) (walk_next _ inv.1))

pub returns : goal.returns
returns c = λ e. clash false e refl
