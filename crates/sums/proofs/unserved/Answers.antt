-- `sums::unserved` meets its contract.
use Prim.Native.Nat.{◌+◌}
use mathlib.Core.Path.{refl}
use mathlib.Core.Bool.{false}
use native.Mathlib.Omega.{arith}
use borrow.Author.Tests.{ltb-true}
use Rattle.counting.proofs.Tests.{clash}
use Rattle.sums.proofs.Serving.{few_modules, running_narrow, too_little}
use Rattle.sums.proofs.unserved.Goals as goal

pub returns-then-size-gt-SERVED_JOBS : goal.returns-then-size-gt-SERVED_JOBS
returns-then-size-gt-SERVED_JOBS c = λ e. clash false e refl

pub returns-then-count-eq0 : goal.returns-then-count-eq0
returns-then-count-eq0 c = λ e. clash false e refl

pub served_behind-behind-requires : goal.served_behind-behind-requires
served_behind-behind-requires c =
    let pre = c.requires in
    (running_narrow pre.0 pre.1, c.subset_sums-count.ensures.few)

pub overflow_add-result : goal.overflow_add-result
overflow_add-result c =
    let past = c in
    let a = past.args in
    let pre = past.requires in
    let behind = c.served_behind-behind in
    let reach = c.reach_from in
    let at_once = few_modules a.free reach.result (omega (arith, pre.1.profile.balance, pre.0.most)) (omega arith) in
    record { fits = omega (arith, at_once, behind.ensures.1, c.times-at_once.ensures) }

pub returns : goal.returns
returns c =
    let past = c in
    let a = past.args in
    let pre = past.requires in
    let sums = c.subset_sums-count in
    let behind = c.served_behind-behind in
    let reach = c.reach_from in
    let times = c.times-at_once in
    let if2 = c.if-count-eq0 in
    λ e.
    let short = ltb-true (behind.result + times.result) c.args.part.now.left e in
    too_little pre.0 pre.1 a.close sums.ensures (omega (arith, if2.false))
    (rw (behind.ensures.0, times.ensures, reach.ensures) at short)
