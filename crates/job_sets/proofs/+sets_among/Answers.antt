-- The number of sets among the jobs that are left, from the numbers of the two parts.
use mathlib.Core.Path.{◌≡◌, subst}
use Prim.Native.Nat.{ℕ, ◌+◌, ◌*◌}
use native.Mathlib.Omega.{arith}
use Rattle.job_sets.specs.Results.{SetsAmong}
use Rattle.job_sets.proofs.Remaining.{fewer_left}
use Rattle.job_sets.proofs.Counted.{among_none, among_fits, among_more}
use Rattle.job_sets.proofs.+sets_among.Goals as goal

pub returns-then-left-eq0 : goal.returns-then-left-eq0
returns-then-left-eq0 t c =
    rw c.if-left-eq0.true (among_none c.args.before.now c.args.behind.now)

pub sets_among-absent-requires : goal.sets_among-absent-requires
sets_among-absent-requires t c =
    let lower = c.leaving-lower.ensures in
    (omega (arith, c.decreases, fewer_left c.busiest-j.ensures.1 c.requires lower), omega (arith, lower.within))

-- where the parts are the same, one number is enough
pub overflow_mul-result : goal.overflow_mul-result
overflow_mul-result t c =
    let absent = c.sets_among-absent in
    let a = c.args in
    let same = rw (← c.if-higher-lower.true) at absent.ensures in
    let both = among_more a.left c.busiest-j.result _ _ a.before.now a.behind.now c.requires c.busiest-j.ensures.1 c.leaving-lower.ensures c.leaving-higher.ensures
    absent.result absent.result absent.ensures same in
    record { fits = omega (arith, among_fits c.requires both) }

pub returns-then-higher-lower : goal.returns-then-higher-lower
returns-then-higher-lower t c =
    let absent = c.sets_among-absent in
    let a = c.args in
    let same = rw (← c.if-higher-lower.true) at absent.ensures in
    let both = among_more a.left c.busiest-j.result _ _ a.before.now a.behind.now c.requires c.busiest-j.ensures.1 c.leaving-lower.ensures c.leaving-higher.ensures
    absent.result absent.result absent.ensures same in
    let two : absent.result + absent.result ≡ 2 * absent.result = omega arith in
    subst (λ (x : ℕ). SetsAmong a.left a.before.now a.behind.now x) two both

pub sets_among-requires : goal.sets_among-requires
sets_among-requires t c =
    let higher = c.leaving-higher.ensures in
    (omega (arith, c.decreases, fewer_left c.busiest-j.ensures.1 c.requires higher), omega (arith, higher.within))

pub overflow_add-result : goal.overflow_add-result
overflow_add-result t c =
    let a = c.args in
    let absent = c.sets_among-absent in
    let more = c.sets_among in
    let both = among_more a.left c.busiest-j.result _ _ a.before.now a.behind.now c.requires c.busiest-j.ensures.1 c.leaving-lower.ensures c.leaving-higher.ensures
    absent.result more.result absent.ensures more.ensures in
    record { fits = omega (arith, among_fits c.requires both) }

pub returns : goal.returns
returns t c =
    let a = c.args in
    let absent = c.sets_among-absent in
    let more = c.sets_among in
    among_more a.left c.busiest-j.result _ _ a.before.now a.behind.now c.requires c.busiest-j.ensures.1 c.leaving-lower.ensures c.leaving-higher.ensures
    absent.result more.result absent.ensures more.ensures
